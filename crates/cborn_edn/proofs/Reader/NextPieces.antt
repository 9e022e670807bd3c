-- The token after a string that is known to end.
use Rattle.std.specs.Prelude.{◌++◌, ◌≡◌, ◌+◌, ◌∷◌}
use Rattle.cborn_edn.proofs.Common.{Option, Mark, EmbedClose, marked, mark_of, refl, sym, subst, ℕ, List, [], drop, get_or, true, eqb, inl, inr, arith, eqb-true, or_cases, drop_all, codes, list_any, AllByRecursion, Profile, Class, ArrayClose, MapClose, ParenClose, Comma, Colon, Token, WhiteSpace, Read, Start, single, start_of, ReadsFrom, Covers, TokensBetween, ends_string, NoPieceAt, EndsPieces, never}
use Rattle.cborn_lex.specs.Tokens.{Bad, Front}
use Rattle.cborn_lex.specs.Forms.{Reads}
use Rattle.cborn_lex.proofs.GoodBack.{read}
use Rattle.cborn_edn.proofs.Reader.CommonTokens.{begins_here}

-- what is read ends a string, unless it is no token
abbrev Ending : Front → Type 0
Ending WhiteSpace = ⊥
Ending (Read k) = EndsPieces k
Ending (Bad r) = Unit {0}

abbrev Ends : ℕ → Type 0
Ends c = (profile : Profile) (s z : List ℕ) (a : Front) → Reads profile (c ∷ s) z a → Ending a

alone : (c : ℕ) (k : Class) → start_of c ≡ single k → EndsPieces k → Ends c
alone c k is ends = λ profile s z a r. let t : (s ≡ []) × (a ≡ Read k) = subst (λ (x : Start). ReadsFrom x profile c s z a) is r in subst Ending (sym t.1) ends

marked_end : (o : Option Mark) → Ending (marked EmbedClose o)
marked_end o = grind arith

closing : Ends 62
closing = λ profile s z a r. elim r [ inl (mark, is, run, f) ↦ subst Ending (sym f) (marked_end (mark_of mark)) | inr (is, none, f) ↦ subst Ending (sym f) tt ]

-- what is one of these characters ends a string if each of them does
one_of : (c : ℕ) (x : List ℕ) → list_any (λ d. eqb c d) x ≡ true → AllByRecursion Ends x → Ends c
one_of c [] h e = never h
one_of c (d ∷ x) h e = elim (or_cases (eqb c d) _ h) [ inl same ↦ subst Ends (sym (eqb-true c d same)) e.0 | inr k ↦ one_of c x k e.1 ]

ending : (c : ℕ) → ends_string c ≡ true → Ends c
ending c h = one_of c (codes ",]}:)>") h (alone 44 Comma refl tt, (alone 93 ArrayClose refl tt, (alone 125 MapClose refl tt, (alone 58 Colon refl tt, (alone 41 ParenClose refl tt, (closing, tt))))))

starts : (profile : Profile) (c : ℕ) (s x z : List ℕ) (a : Front) → Ends c → Reads profile s x a → s ++ x ≡ c ∷ z → Ending a
starts profile c s x z a h1 h2 h3 = grind arith

-- the first token of a text that begins with that character
first : (profile : Profile) {n m : ℕ} {x y : List ℕ} {ts : List Token} → Covers profile n x ts m y → (c : ℕ) (z : List ℕ) (t : Token) → Ends c → x ≡ c ∷ z → ts ≡ t ∷ [] → EndsPieces t.class
first profile h1 c z t h2 h3 h4 = grind (arith, read, starts)

-- no token begins an empty text
none_begins : (profile : Profile) {n m : ℕ} {x y : List ℕ} {ts : List Token} → Covers profile n x ts m y → (t : Token) → x ≡ [] → ts ≡ t ∷ [] → ⊥
none_begins profile h1 t h2 h3 = grind (arith, read)

-- LAW: the next token there ends the string
pub next_ends : (profile : Profile) (text : List ℕ) (n m : ℕ) (t : Token) → NoPieceAt text n → TokensBetween profile text n m (t ∷ []) → EndsPieces t.class
next_ends profile text n m t (inl e) h = absurd (none_begins profile h t (drop_all n text (omega (arith, e))) refl)
next_ends profile text n m t (inr h) k = first profile k (get_or text n 0) (drop (n + 1) text) t (ending (get_or text n 0) h.1) (begins_here text n (get_or text n 0) h.0 refl) refl
