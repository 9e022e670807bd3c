-- A scan from piece to piece.
use Rattle.std.specs.Prelude.{◌≡◌, ◌+◌, ◌<◌, ◌≤◌, ◌∷◌, ◌++◌}
use Rattle.cborn_lex.proofs.Common.{Result, IfErr, Fails, refl, ap, subst, ℕ, List, [], length, take, drop, get_or, arith, add-one, take-append-drop, length-append, length-take-le, drop_all, drop-drop, get_or-drop, true, Profile, LexReason, LexFault, Refused, OutOfMemory, Class, Token, Front, WhiteSpace, Read, Bad, is_white, start_of, ReadsFrom, Reads, Covers, HasTokens, TokensBetween, HasNoTokens, HasNoTokenFrom, length-drop}
use Rattle.std.specs.Result.{IsErr, IsErrAnd}
use Rattle.cborn_lex.specs.Good.{end, white_space, token}
use Rattle.cborn_lex.proofs.GoodFronts.{taken as takes}
use Rattle.cborn_lex.proofs.GoodBack.{read}
use Rattle.cborn_lex.proofs.WholeTexts.Chains.{some_long}

first_reads : (profile : Profile) (text tail : List ℕ) (n : ℕ) (a : Front) → 0 < length text → tail ≡ drop 1 text → n ≤ length tail → ReadsFrom (start_of (get_or text 0 0)) profile (get_or text 0 0) (take n tail) (drop n tail) a
    → (0 < n + 1) × (n + 1 ≤ length text) × Reads profile (take (n + 1) text) (drop (n + 1) text) a
first_reads profile [] tail n a some e h k = absurd (omega arith)
first_reads profile (c ∷ x) tail n a some e h k =
    let same : tail ≡ x = e in
    (omega arith, omega (arith, ap length same), rw add-one (subst (λ (y : List ℕ). ReadsFrom (start_of c) profile c (take n y) (drop n y) a) same k))

-- One part of a text after another.

-- what is between two places, by equal places and lists
along : (profile : Profile) (n m l : ℕ) (x y z w : List ℕ) (ts us : List Token) → x ≡ y → ts ≡ us → m ≡ l → z ≡ w → Covers profile n x ts m z → Covers profile n y us l w
along profile n m l x y z w ts us a b c d t = rw (← a, ← b, ← c, ← d) t

then : (profile : Profile) (l : ℕ) (z : List ℕ) (us : List Token) {n m : ℕ} {x y : List ℕ} {ts : List Token} → Covers profile n x ts m y → Covers profile m y us l z → Covers profile n x (ts ++ us) l z
then profile l z us (end n x) k = k
then profile l z us (white_space n m s x y ts h t) k = white_space n l s x z (ts ++ us) h (then profile l z us t k)
then profile l z us (token n m c s x y ts h t) k = token n l c s x z (ts ++ us) h (then profile l z us t k)

-- LAW: no token is between a place and itself
pub nothing : (profile : Profile) (text : List ℕ) (n : ℕ) → TokensBetween profile text n n []
nothing profile text n = end n (drop n text)

-- LAW: the tokens between three places
pub joins : (profile : Profile) (text : List ℕ) (l m n : ℕ) (ts us : List Token) → TokensBetween profile text l m ts → TokensBetween profile text m n us → TokensBetween profile text l n (ts ++ us)
joins profile text l m n ts us h k = then profile n (drop n text) us h k

taken : (profile : Profile) {n m : ℕ} {x y : List ℕ} {ts : List Token} → Covers profile n x ts m y → (n + length ts ≤ m) × (m + length y ≡ n + length x)
taken profile (end n x) = (omega arith, refl)
taken profile (white_space n m s x y ts h t) = let r = taken profile t in (omega (arith, r.0), omega (arith, r.1, length-append s x))
taken profile (token n m c s x y ts h t) =
    let r = taken profile t in
    let long = some_long profile s x (Read c) (read profile h) in
    (omega (arith, r.0), omega (arith, r.1, length-append s x))

pub inside : (profile : Profile) (text : List ℕ) (n m : ℕ) (ts : List Token) → n ≤ length text → TokensBetween profile text n m ts → (n ≤ m) × (m ≤ length text)
inside profile text n m ts h1 h2 = grind (arith, length-drop, taken)

-- a part read from another place on
moved : (profile : Profile) {n m : ℕ} {x y : List ℕ} {ts : List Token} → Covers profile n x ts m y → (i : ℕ) → (j : ℕ) × (us : List Token) × (j + n ≡ m + i) × Covers profile i x us j y
moved profile (end n x) i = (i, [], omega arith, end i x)
moved profile (white_space n m s x y ts h t) i =
    let r = moved profile t (i + length s) in
    (r.0, r.1, omega (arith, r.2), white_space i r.0 s x y r.1 h r.3)
moved profile (token n m c s x y ts h t) i =
    let r = moved profile t (i + length s) in
    (r.0, record { start = i; stop = i + length s; class = c } ∷ r.1, omega (arith, r.2), token i r.0 c s x y r.1 h r.3)

-- what the next n bytes are
next : (text : List ℕ) (at n : ℕ) → n ≤ length (drop at text) → (take n (drop at text) ++ drop n (drop at text) ≡ drop at text) × (length (take n (drop at text)) ≡ n) × (drop n (drop at text) ≡ drop (at + n) text)
next text at n h = (take-append-drop n (drop at text), length-take-le n (drop at text) h, drop-drop n at text)

pub after_blank : (profile : Profile) (text : List ℕ) (from at n : ℕ) → TokensBetween profile text from at [] → n ≤ length (drop at text) → Reads profile (take n (drop at text)) (drop n (drop at text)) WhiteSpace → TokensBetween profile text from (at + n) []
after_blank profile text from at n h k r =
    let e = next text at n k in
    let s = take n (drop at text) in
    let x = drop n (drop at text) in
    joins profile text from at (at + n) [] [] h
    (along profile at (at + length s) (at + n) (s ++ x) (drop at text) x (drop (at + n) text) [] [] e.0 refl (ap (λ m. at + m) e.1) e.2 (white_space at (at + length s) s x x [] (takes profile s x WhiteSpace r) (end (at + length s) x)))

white_reads : (profile : Profile) (x : List ℕ) → 0 < length x → is_white (get_or x 0 0) ≡ true → Reads profile (take 1 x) (drop 1 x) WhiteSpace
white_reads profile x h1 h2 = grind arith

pub after_white : (profile : Profile) (text : List ℕ) (from at : ℕ) → TokensBetween profile text from at [] → at < length text → is_white (get_or text at 0) ≡ true → TokensBetween profile text from (at + 1) []
after_white profile text from at h1 h2 h3 = grind (arith, after_blank, get_or-drop, length-drop, white_reads)

pub then_token : (profile : Profile) (text : List ℕ) (from at n : ℕ) (class : Class) → TokensBetween profile text from at [] → n ≤ length (drop at text) → Reads profile (take n (drop at text)) (drop n (drop at text)) (Read class)
    → TokensBetween profile text from (at + n) (record { start = at; stop = at + n; class = class } ∷ [])
then_token profile text from at n class h k r =
    let e = next text at n k in
    let s = take n (drop at text) in
    let x = drop n (drop at text) in
    joins profile text from at (at + n) [] (record { start = at; stop = at + n; class = class } ∷ []) h
    (along profile at (at + length s) (at + n) (s ++ x) (drop at text) x (drop (at + n) text) (record { start = at; stop = at + length s; class = class } ∷ []) (record { start = at; stop = at + n; class = class } ∷ []) e.0 (ap (λ m. record { start = at; stop = at + m; class = class } ∷ []) e.1) (ap (λ m. at + m) e.1) e.2
    (token at (at + length s) class s x x [] (takes profile s x (Read class) r) (end (at + length s) x)))

pub then_end : (profile : Profile) (text : List ℕ) (from at : ℕ) → from ≤ length text → TokensBetween profile text from at [] → length text ≤ at → TokensBetween profile text from (length text) []
then_end profile text from at h1 h2 h3 = grind (arith, inside)

then_stop : (profile : Profile) (text : List ℕ) (from at n : ℕ) (reason : LexReason) → TokensBetween profile text from at [] → Reads profile (take n (drop at text)) (drop n (drop at text)) (Bad reason) → HasNoTokenFrom profile text from (Refused at reason)
then_stop profile text from at n reason h r =
    let d = drop at text in
    let m = moved profile h 0 in
    (m.0, omega (arith, m.2), (m.1, d, m.3, subst (λ y. Fails profile y reason) (take-append-drop n d) (takes profile (take n d) (drop n d) (Bad reason) r)))

-- what the text y begins with, whose first character is not counted
pub reads_at : (profile : Profile) (x y : List ℕ) (n : ℕ) (a b : Front) → x ≡ y → a ≡ b → 0 < length x → n ≤ length (drop 1 x) → ReadsFrom (start_of (get_or x 0 0)) profile (get_or x 0 0) (take n (drop 1 x)) (drop n (drop 1 x)) a
    → (n + 1 ≤ length y) × Reads profile (take (n + 1) y) (drop (n + 1) y) b
reads_at profile x y n a b h1 h2 h3 h4 h5 = let f = first_reads profile x (drop 1 x) n a h3 refl h4 h5 in rw (← h1, ← h2) (f.1, f.2)

pub bad_at : (profile : Profile) (text x : List ℕ) (from at n : ℕ) (a : Front) (reason : LexReason) → TokensBetween profile text from at [] → x ≡ drop at text → a ≡ Bad reason → 0 < length x → n ≤ length (drop 1 x) → ReadsFrom (start_of (get_or x 0 0)) profile (get_or x 0 0) (take n (drop 1 x)) (drop n (drop 1 x)) a
    → HasNoTokenFrom profile text from (Refused at reason)
bad_at profile text x from at n a reason h h1 h2 h3 h4 h5 = then_stop profile text from at (n + 1) reason h (reads_at profile x (drop at text) n a (Bad reason) h1 h2 h3 h4 h5).1

-- Whole texts.

-- LAW: the tokens of a whole text
pub whole_text : (profile : Profile) (text : List ℕ) (ts : List Token) → TokensBetween profile text 0 (length text) ts → HasTokens profile text ts
whole_text profile text ts h = subst (Covers profile 0 text ts (length text)) (drop_all (length text) text (omega arith)) h

-- LAW: where the rest stops, all stops
pub stops : (profile : Profile) (text : List ℕ) (m n : ℕ) (ts : List Token) (e : LexFault) → TokensBetween profile text m n ts → HasNoTokenFrom profile text n e → HasNoTokenFrom profile text m e
stops profile text m n ts OutOfMemory h k = tt
stops profile text m n ts (Refused p r) h (q, e, (us, y, k, bad)) =
    let a = moved profile h 0 in
    let b = moved profile k a.0 in
    (b.0, omega (arith, a.2, b.2), (a.1 ++ b.1, y, then profile b.0 y b.1 a.3 b.3, bad))

-- LAW: the stop of a whole text
pub whole_stop : (profile : Profile) (text : List ℕ) (e : LexFault) → HasNoTokenFrom profile text 0 e → HasNoTokens profile text e
whole_stop profile text e h1 = grind arith

-- a token takes some bytes
pub few : (profile : Profile) (text : List ℕ) (n m : ℕ) (ts : List Token) → TokensBetween profile text n m ts → n + length ts ≤ m
few profile text n m ts h = (taken profile h).0

-- a fault that is passed on
pub passed_on : {A E : Type 0} (r : Result A E) (x : E) (P : E → Type 0) → P x → IsErr r × IsErrAnd r (λ e. e ≡ x) → IfErr r P
passed_on r x P h1 h2 = grind arith
