-- A text read from its front on, and as a list of its pieces.
use Rattle.std.specs.Prelude.{◌≡◌, ◌+◌, ◌∷◌, ◌++◌}
use Rattle.cborn_lex.proofs.Common.{Some, None, refl, sym, ap, ◌∙◌, subst, ℕ, List, [], length, append_assoc, append-nil, arith, Profile, Token, LexReason, WhiteSpace, Read, Reads, Covers, HasTokens, FailsAt, BeginsNothing, Lexeme, white_space, token, spelled, AreRead, tokens, Parted, BeginsNoPiece, LexParted, StopParted, length-append}
use Rattle.cborn_lex.specs.Good as good
use Rattle.cborn_lex.proofs.GoodFronts.{taken}
use Rattle.cborn_lex.proofs.GoodBack.{read}
use Rattle.cborn_lex.proofs.BadBack.{fails}

pub parted : (profile : Profile) {n m : ℕ} {x y : List ℕ} {ts : List Token} → Covers profile n x ts m y → Parted profile n x ts m y
parted profile (good.end n x) = record { pieces = []; read = tt; whole = refl; place = omega arith; placed = refl }
parted profile (good.white_space n m s x y ts h t) =
    let r = parted profile t in
    let place = r.place in
    record {
      pieces = white_space s ∷ r.pieces;
      read = (subst (λ (z : List ℕ). Reads profile s z WhiteSpace) r.whole (read profile h), r.read);
      whole = ap (λ z. s ++ z) r.whole ∙ sym (append_assoc s (spelled r.pieces) y);
      place = omega (arith, length-append s (spelled r.pieces));
      placed = r.placed;
    }
parted profile (good.token n m k s x y ts h t) =
    let r = parted profile t in
    let place = r.place in
    record {
      pieces = token k s ∷ r.pieces;
      read = (subst (λ (z : List ℕ). Reads profile s z (Read k)) r.whole (read profile h), r.read);
      whole = ap (λ z. s ++ z) r.whole ∙ sym (append_assoc s (spelled r.pieces) y);
      place = omega (arith, length-append s (spelled r.pieces));
      placed = ap (λ us. record { start = n; stop = n + length s; class = k } ∷ us) r.placed;
    }

through_all : (profile : Profile) (n m : ℕ) (ps : List Lexeme) (y : List ℕ) → AreRead profile ps y → m ≡ n + length (spelled ps) → Covers profile n (spelled ps ++ y) (tokens n ps) m y
through_all profile n m [] y h e = subst (λ (k : ℕ). Covers profile n y [] k y) (omega arith) (good.end n y)
through_all profile n m (white_space s ∷ ps) y h e =
    subst (λ (z : List ℕ). Covers profile n z (tokens (n + length s) ps) m y) (sym (append_assoc s (spelled ps) y))
    (good.white_space n m s (spelled ps ++ y) y (tokens (n + length s) ps) (taken profile s (spelled ps ++ y) WhiteSpace h.0) (through_all profile (n + length s) m ps y h.1 (omega (arith, length-append s (spelled ps)))))
through_all profile n m (token k s ∷ ps) y h e =
    subst (λ (z : List ℕ). Covers profile n z (tokens n (token k s ∷ ps)) m y) (sym (append_assoc s (spelled ps) y))
    (good.token n m k s (spelled ps ++ y) y (tokens (n + length s) ps) (taken profile s (spelled ps ++ y) (Read k) h.0) (through_all profile (n + length s) m ps y h.1 (omega (arith, length-append s (spelled ps)))))

pub through : (profile : Profile) (n m : ℕ) (x y : List ℕ) (ts : List Token) → Parted profile n x ts m y → Covers profile n x ts m y
through profile n m x y ts h1 = grind (arith, read, through_all)

-- Whole texts, and texts that stop.

pub lex_parted : (profile : Profile) (text : List ℕ) (ts : List Token) → HasTokens profile text ts → LexParted profile text ts
lex_parted profile text ts h = let r = parted profile h in record { pieces = r.pieces; read = r.read; whole = r.whole ∙ append-nil (spelled r.pieces); placed = r.placed }

pub parted_lex : (profile : Profile) (text : List ℕ) (ts : List Token) → LexParted profile text ts → HasTokens profile text ts
parted_lex profile text ts r = through profile 0 (length text) text [] ts (record { pieces = r.pieces; read = r.read; whole = r.whole ∙ sym (append-nil (spelled r.pieces)); place = omega (arith, ap length r.whole); placed = r.placed })

pub stop_parted : (profile : Profile) (text : List ℕ) (n : ℕ) (r : LexReason) → FailsAt profile text n r → StopParted profile text n r
stop_parted profile text n r h1 = grind (arith, fails, parted, read)

pub has_no_piece : (profile : Profile) (z : List ℕ) → BeginsNoPiece profile z → BeginsNothing profile z
has_no_piece profile z h s x None e t = h (white_space s) x (read profile t) e
has_no_piece profile z h s x (Some k) e t = h (token k s) x (read profile t) e
