-- A part of a text, read as pieces one after another, and the tokens of it.
use Rattle.std.specs.Prelude.{◌≡◌, ◌+◌, ◌∷◌, ◌++◌}
use Rattle.cborn_edn.proofs.Common.{refl, sym, ap, ◌∙◌, subst, ℕ, List, [], length, append_assoc, append-nil, Profile, Class, Token, WhiteSpace, Read, HasTokens, token, nowhere, unplaced_token, map as list_map, ProfileOne, ProfileTwo, both_profiles}
use Rattle.cborn_lex.specs.Forms.{Reads}
use Rattle.cborn_lex.specs.devices.Pieces.{Lexeme, white_space, token as lexed, slice, front_of, spelled, AreRead, tokens}
use Rattle.cborn_lex.proofs.WholeTexts.Parts.{parted_lex}

-- the tokens among pieces, without their places
abbrev pub unplaced_tokens : List Lexeme → List Token
unplaced_tokens [] = []
unplaced_tokens (white_space s ∷ ps) = unplaced_tokens ps
unplaced_tokens (lexed k s ∷ ps) = token nowhere k ∷ unplaced_tokens ps

-- x, before z, reads as pieces with these tokens
pub record Chained (x z : List ℕ) (ts : List Token) : Type 0 where
  pub pieces : List Lexeme
  pub read : AreRead ProfileOne pieces z
  pub whole : x ≡ spelled pieces
  pub same_tokens : unplaced_tokens pieces ≡ ts

unplaced-placed : (n : ℕ) (ps : List Lexeme) → list_map unplaced_token (tokens n ps) ≡ unplaced_tokens ps
unplaced-placed n [] = refl
unplaced-placed n (white_space s ∷ ps) = unplaced-placed (n + length s) ps
unplaced-placed n (lexed k s ∷ ps) = ap (λ ts. token nowhere k ∷ ts) (unplaced-placed (n + length s) ps)

spelled-append : (ps qs : List Lexeme) → spelled (ps ++ qs) ≡ spelled ps ++ spelled qs
spelled-append [] qs = refl
spelled-append (p ∷ ps) qs = ap (λ x. slice p ++ x) (spelled-append ps qs) ∙ sym (append_assoc (slice p) (spelled ps) (spelled qs))

unplaced-append : (ps qs : List Lexeme) → unplaced_tokens (ps ++ qs) ≡ unplaced_tokens ps ++ unplaced_tokens qs
unplaced-append [] qs = refl
unplaced-append (white_space s ∷ ps) qs = unplaced-append ps qs
unplaced-append (lexed k s ∷ ps) qs = ap (λ ts. token nowhere k ∷ ts) (unplaced-append ps qs)

read-append : (ps qs : List Lexeme) (z : List ℕ) → AreRead ProfileOne ps (spelled qs ++ z) → AreRead ProfileOne qs z → AreRead ProfileOne (ps ++ qs) z
read-append [] qs z h k = k
read-append (p ∷ ps) qs z h k =
    let e : spelled ps ++ (spelled qs ++ z) ≡ spelled (ps ++ qs) ++ z = sym (append_assoc (spelled ps) (spelled qs) z) ∙ ap (λ x. x ++ z) (sym (spelled-append ps qs)) in
    (subst (λ (x : List ℕ). Reads ProfileOne (slice p) x (front_of p)) e h.0, read-append ps qs z h.1 k)

pub no_text : (z : List ℕ) → Chained [] z []
no_text z = record { pieces = []; read = tt; whole = refl; same_tokens = refl }

pub one_token : (k : Class) (s z : List ℕ) → Reads ProfileOne s z (Read k) → Chained s z (token nowhere k ∷ [])
one_token k s z h = record { pieces = lexed k s ∷ []; read = (h, tt); whole = sym (append-nil s); same_tokens = refl }

pub one_white_space : (s z : List ℕ) → Reads ProfileOne s z WhiteSpace → Chained s z []
one_white_space s z h = record { pieces = white_space s ∷ []; read = (h, tt); whole = sym (append-nil s); same_tokens = refl }

-- one part and then another
pub both : (x y z : List ℕ) (ts us : List Token) → Chained x (y ++ z) ts → Chained y z us → Chained (x ++ y) z (ts ++ us)
both x y z ts us h k = record {
  pieces = h.pieces ++ k.pieces;
  read = read-append h.pieces k.pieces z (subst (λ (w : List ℕ). AreRead ProfileOne h.pieces (w ++ z)) k.whole h.read) k.read;
  whole = ap (λ w. w ++ y) h.whole ∙ (ap (λ w. spelled h.pieces ++ w) k.whole ∙ sym (spelled-append h.pieces k.pieces));
  same_tokens = unplaced-append h.pieces k.pieces ∙ (ap (λ w. w ++ unplaced_tokens k.pieces) h.same_tokens ∙ ap (λ w. ts ++ w) k.same_tokens);
}

pub retell : (x z : List ℕ) (ts us : List Token) → ts ≡ us → Chained x z ts → Chained x z us
retell x z ts us e h = subst (λ (w : List Token). Chained x z w) e h

-- these are the tokens of a whole text, without their places
abbrev pub HasBare : Profile → List ℕ → List Token → Type 0
HasBare profile x bares = (ts : List Token) × HasTokens profile x ts × (list_map unplaced_token ts ≡ bares)

lexed_one : (x : List ℕ) (ts : List Token) (h : Chained x [] ts) → HasTokens ProfileOne x (tokens 0 h.pieces)
lexed_one x ts h = parted_lex ProfileOne x (tokens 0 h.pieces) (record { pieces = h.pieces; read = h.read; whole = h.whole; placed = refl })

pub whole_text : (profile : Profile) (x : List ℕ) (ts : List Token) → Chained x [] ts → HasBare profile x ts
whole_text ProfileOne x ts h = (tokens 0 h.pieces, lexed_one x ts h, unplaced-placed 0 h.pieces ∙ h.same_tokens)
whole_text ProfileTwo x ts h = (tokens 0 h.pieces, both_profiles x (tokens 0 h.pieces) (lexed_one x ts h), unplaced-placed 0 h.pieces ∙ h.same_tokens)
