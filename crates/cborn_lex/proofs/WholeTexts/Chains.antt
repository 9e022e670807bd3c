-- The laws of whole texts.
use Rattle.std.specs.Prelude.{◌≡◌, ◌<◌, ◌∷◌, ◌++◌, ◌⊎◌, ◌≤◌, ◌+◌}
use Rattle.cborn_lex.proofs.Common.{refl, sym, ap, ◌∙◌, subst, ℕ, zero, suc, List, [], length, true, inl, inr, append_assoc, append-nil, arith, and_parts, list_all-append, Profile, One, Two, LexReason, Token, Front, WhiteSpace, Read, Bad, Start, ReadsFrom, Reads, HasTokens, BeginsNothing, FailsAt, SpansRise, Lexeme, white_space, token, slice, front_of, spelled, AreRead, tokens, BeginsNoPiece, drop, length-append, Covers, Fails}
use Rattle.cborn_lex.specs.Good as good
use Rattle.cborn_lex.proofs.GoodFronts.{Good, taken}
use Rattle.cborn_lex.proofs.WholeTexts.Parts.{lex_parted, parted_lex, stop_parted, has_no_piece}
use Rattle.cborn_lex.proofs.Sliced.Pieces.{front_is}
use Rattle.cborn_lex.proofs.OneFront.Runs.{rest}
use Rattle.cborn_lex.proofs.OneFront.Alone.{one_front}
use Rattle.cborn_lex.proofs.OneFront.Found.{some_front}
use Rattle.cborn_lex.proofs.Contents.Decoded.{are_bytes, is_byte}

-- a front has a first character
no_front : (profile : Profile) (s z : List ℕ) (a : Front) → Reads profile s z a → s ++ z ≡ [] → ⊥
no_front profile s z a h1 h2 = grind arith

-- a piece is its slice and what it is
one_piece : (p q : Lexeme) → slice p ≡ slice q → front_of p ≡ front_of q → p ≡ q
one_piece p q h1 h2 = grind arith

not_bad : (p : Lexeme) (r : LexReason) → front_of p ≡ Bad r → ⊥
not_bad p r h1 = grind arith

-- two readings: the fronts of one text are the same
first : (profile : Profile) (p q : Lexeme) (x y : List ℕ) → Reads profile (slice p) x (front_of p) → Reads profile (slice q) y (front_of q) → slice p ++ x ≡ slice q ++ y → (p ≡ q) × (x ≡ y)
first profile p q x y h1 h2 h3 = grind (arith, one_front, one_piece, rest)

split : (p : Lexeme) (ps : List Lexeme) (z : List ℕ) → (slice p ++ spelled ps) ++ z ≡ slice p ++ (spelled ps ++ z)
split p ps z = append_assoc (slice p) (spelled ps) z

one_chain : (profile : Profile) (ps qs : List Lexeme) (z w : List ℕ) → AreRead profile ps z → AreRead profile qs w → BeginsNoPiece profile z → BeginsNoPiece profile w → spelled ps ++ z ≡ spelled qs ++ w → (ps ≡ qs) × (z ≡ w)
one_chain profile [] [] z w h k f g e = (refl, e)
one_chain profile [] (q ∷ qs) z w h k f g e = absurd (f q (spelled qs ++ w) k.0 (e ∙ split q qs w))
one_chain profile (p ∷ ps) [] z w h k f g e = absurd (g p (spelled ps ++ z) h.0 (sym e ∙ split p ps z))
one_chain profile (p ∷ ps) (q ∷ qs) z w h k f g e =
    let r = first profile p q (spelled ps ++ z) (spelled qs ++ w) h.0 k.0 (sym (split p ps z) ∙ (e ∙ split q qs w)) in
    let t = one_chain profile ps qs z w h.1 k.1 f g r.1 in
    (ap (λ x. x ∷ ps) r.0 ∙ ap (λ xs. q ∷ xs) t.0, t.1)

end_ends : (profile : Profile) → BeginsNoPiece profile []
end_ends profile p x h e = no_front profile (slice p) x (front_of p) h (sym e)

pub bad_ends : (profile : Profile) (s z : List ℕ) (r : LexReason) → Reads profile s z (Bad r) → BeginsNoPiece profile (s ++ z)
bad_ends profile s z r h p x k e = not_bad p r (sym (one_front profile s z (slice p) x (Bad r) (front_of p) h k e).1)

-- a whole text
whole_text : (text : List ℕ) (ps : List Lexeme) → text ≡ spelled ps → text ≡ spelled ps ++ []
whole_text text ps e = e ∙ sym (append-nil (spelled ps))

pub one_list : (profile : Profile) (text : List ℕ) (ts us : List Token) → HasTokens profile text ts → HasTokens profile text us → ts ≡ us
one_list profile text ts us h1 h2 = grind (arith, end_ends, lex_parted, one_chain, whole_text)

pub not_both : (profile : Profile) (text : List ℕ) (ts : List Token) (p : ℕ) (r : LexReason) → HasTokens profile text ts → FailsAt profile text p r → ⊥
not_both profile text ts p r a b =
    let h = lex_parted profile text ts a in
    let k = stop_parted profile text p r b in
    let t = one_chain profile h.pieces k.pieces [] (k.front ++ k.rest) h.read k.read (end_ends profile) (bad_ends profile k.front k.rest r k.bad) (sym (whole_text text h.pieces h.whole) ∙ k.whole) in
    no_front profile k.front k.rest (Bad r) k.bad (sym t.1)

bad_reason : (r s : LexReason) → Bad r ≡ Bad s → r ≡ s
bad_reason r s e = cc

pub one_stop : (profile : Profile) (text : List ℕ) (p q : ℕ) (r s : LexReason) → FailsAt profile text p r → FailsAt profile text q s → (p ≡ q) × (r ≡ s)
one_stop profile text p q r s a b =
    let h = stop_parted profile text p r a in
    let k = stop_parted profile text q s b in
    let t = one_chain profile h.pieces k.pieces (h.front ++ h.rest) (k.front ++ k.rest) h.read k.read (bad_ends profile h.front h.rest r h.bad) (bad_ends profile k.front k.rest s k.bad) (sym h.whole ∙ k.whole) in (
      h.place ∙ (ap (λ ps. length (spelled ps)) t.0 ∙ sym k.place),
      bad_reason r s (one_front profile h.front h.rest k.front k.rest (Bad r) (Bad s) h.bad k.bad t.1).1,
    )

shorter : (profile : Profile) (s z text : List ℕ) (a : Front) → Reads profile s z a → text ≡ s ++ z → length z < length text
shorter profile s z text a h1 h2 = grind (arith, length-append)

pub stop_inside : (profile : Profile) (text : List ℕ) (p : ℕ) (r : LexReason) → FailsAt profile text p r → p < length text
stop_inside profile text p r a =
    let h = stop_parted profile text p r a in
    let some = shorter profile h.front h.rest (h.front ++ h.rest) (Bad r) h.bad refl in
    omega (arith, ap length h.whole, h.place, length-append (spelled h.pieces) (h.front ++ h.rest))

pub stop_no_piece : (profile : Profile) (text : List ℕ) (p : ℕ) (r : LexReason) → FailsAt profile text p r → BeginsNothing profile (drop p text)
stop_no_piece profile text p r a =
    let h = stop_parted profile text p r a in
    let rest : drop p text ≡ h.front ++ h.rest = (front_is p text (spelled h.pieces) (h.front ++ h.rest) h.whole (sym h.place)).1 in
    subst (BeginsNothing profile) (sym rest) (has_no_piece profile (h.front ++ h.rest) (bad_ends profile h.front h.rest r h.bad))

-- Spans.

lower : (m n end : ℕ) (ts : List Token) → m ≤ n → SpansRise n ts end → SpansRise m ts end
lower m n end [] h k = omega arith
lower m n end (t ∷ ts) h k = let i = k.0 in (omega arith, k.1, k.2)

pub some_long : (profile : Profile) (s z : List ℕ) (a : Front) → Reads profile s z a → 0 < length s
some_long profile s z a h1 = grind arith

spans : (profile : Profile) (ps : List Lexeme) (n : ℕ) (z : List ℕ) → AreRead profile ps z → SpansRise n (tokens n ps) (n + length (spelled ps))
spans profile [] n z h = omega arith
spans profile (white_space s ∷ ps) n z h =
    let size : n + length s + length (spelled ps) ≡ n + length (s ++ spelled ps) = omega (arith, length-append s (spelled ps)) in
    lower n (n + length s) (n + length (s ++ spelled ps)) (tokens (n + length s) ps) (omega arith) (subst (λ (end : ℕ). SpansRise (n + length s) (tokens (n + length s) ps) end) size (spans profile ps (n + length s) z h.1))
spans profile (token k s ∷ ps) n z h =
    let size : n + length s + length (spelled ps) ≡ n + length (s ++ spelled ps) = omega (arith, length-append s (spelled ps)) in
    let long = some_long profile s (spelled ps ++ z) (Read k) h.0 in
    (omega arith, omega arith, subst (λ (end : ℕ). SpansRise (n + length s) (tokens (n + length s) ps) end) size (spans profile ps (n + length s) z h.1))

pub spans_rise : (profile : Profile) (text : List ℕ) (ts : List Token) → HasTokens profile text ts → SpansRise 0 ts (length text)
spans_rise profile text ts a =
    let h = lex_parted profile text ts a in
    let size : 0 + length (spelled h.pieces) ≡ length text = omega (arith, ap length h.whole) in
    rw h.placed (subst (λ (end : ℕ). SpansRise 0 (tokens 0 h.pieces) end) size (spans profile h.pieces 0 [] h.read))

-- Existence.

-- the tokens of a text from n on, or its lexical fault
abbrev Answered : Profile → ℕ → List ℕ → Type 0
Answered profile n text = ((ts : List Token) × Covers profile n text ts (n + length text) []) ⊎ ((p : ℕ) × (r : LexReason) × ((ts : List Token) × (y : List ℕ) × Covers profile n text ts p y × Fails profile y r))

after_front : (profile : Profile) (n : ℕ) (s z : List ℕ) (a : Front) → Good profile s z a → Answered profile (n + length s) z → Answered profile n (s ++ z)
after_front profile n s z WhiteSpace t (inl (ts, c)) = inl (ts, subst (λ (m : ℕ). Covers profile n (s ++ z) ts m []) (omega (arith, length-append s z)) (good.white_space n _ s z [] ts t c))
after_front profile n s z WhiteSpace t (inr (p, r, (ts, y, c, f))) = inr (p, r, (ts, y, good.white_space n p s z y ts t c, f))
after_front profile n s z (Read k) t (inl (ts, c)) = inl (record { start = n; stop = n + length s; class = k } ∷ ts, subst (λ (m : ℕ). Covers profile n (s ++ z) (record { start = n; stop = n + length s; class = k } ∷ ts) m []) (omega (arith, length-append s z)) (good.token n _ k s z [] ts t c))
after_front profile n s z (Read k) t (inr (p, r, (ts, y, c, f))) = inr (p, r, (record { start = n; stop = n + length s; class = k } ∷ ts, y, good.token n p k s z y ts t c, f))
after_front profile n s z (Bad r) f x = inr (n, r, ([], s ++ z, good.end n (s ++ z), f))

bytes_after : (s z text : List ℕ) → are_bytes text ≡ true → text ≡ s ++ z → are_bytes z ≡ true
bytes_after s z text h e = (and_parts _ _ (sym (list_all-append is_byte s z) ∙ (ap are_bytes (sym e) ∙ h))).1

answered : (profile : Profile) (k n : ℕ) (text : List ℕ) → length text < k → are_bytes text ≡ true → Answered profile n text
answered profile zero n text l h = absurd (omega arith)
answered profile (suc k) n [] l h = inl ([], subst (λ (m : ℕ). Covers profile n [] [] m []) (omega arith) (good.end n []))
answered profile (suc k) n (c ∷ y) l h =
    let r = some_front profile c y h in
    let short = shorter profile r.s r.z (c ∷ y) r.a r.reads r.whole in
    subst (Answered profile n) (sym r.whole) (after_front profile n r.s r.z r.a (taken profile r.s r.z r.a r.reads) (answered profile k (n + length r.s) r.z (omega arith) (bytes_after r.s r.z (c ∷ y) h r.whole)))

pub some_answer : (profile : Profile) (text : List ℕ) → are_bytes text ≡ true → ((ts : List Token) × HasTokens profile text ts) ⊎ ((p : ℕ) × (r : LexReason) × FailsAt profile text p r)
some_answer profile text h = elim (answered profile (suc (length text)) 0 text (omega arith) h) [
  | inl a ↦ inl (a.0, subst (λ (m : ℕ). Covers profile 0 text a.0 m []) (omega arith) a.1)
  | inr b ↦ inr b
]

-- Profiles.

two_from : (k : Start) (c : ℕ) (s z : List ℕ) (p : Lexeme) → ReadsFrom k One c s z (front_of p) → ReadsFrom k Two c s z (front_of p)
two_from k c s z p h1 = grind arith

two_reads : (s z : List ℕ) (p : Lexeme) → Reads One s z (front_of p) → Reads Two s z (front_of p)
two_reads s z p h1 = grind (arith, two_from)

two_chain : (ps : List Lexeme) (z : List ℕ) → AreRead One ps z → AreRead Two ps z
two_chain [] z h = h
two_chain (p ∷ ps) z h = (two_reads (slice p) (spelled ps ++ z) p h.0, two_chain ps z h.1)

pub both_profiles : (text : List ℕ) (ts : List Token) → HasTokens One text ts → HasTokens Two text ts
both_profiles text ts a = let h = lex_parted One text ts a in parted_lex Two text ts (record { pieces = h.pieces; read = two_chain h.pieces [] h.read; whole = h.whole; placed = h.placed })
