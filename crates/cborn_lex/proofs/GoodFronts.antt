-- What reads by Forms.antt as white space, a comment or a token is taken as that by Good.antt, and what reads as bad fails for that reason by Bad.antt.
use Rattle.std.specs.Prelude.{◌≡◌, ◌<◌, ◌^◌, ◌∷◌, ◌++◌, ◌&&◌, ◌||◌}
use Rattle.cborn_lex.proofs.Common.{arith, refl, sym, ap, ◌∙◌, subst, ℕ, List, [], Bool, true, false, not, cond, eqb, ltb, inl, inr, Option, Some, None, Result, Ok, Err, append-nil, append_assoc, eqb-true, and_parts, and_from, or_parts, ltb-true, ltb-false, list_all, is_ascii_digit, is_ascii_alphabetic, is_in_range, bytes_eq, codes, Profile, One, Two, Eight, Mark, Wide, LexReason, UnexpectedCharacter, UnclosedString, UnclosedComment, BadEscape, BadHex, BadBase64, UnknownPrefix, BadIndicator, BadNumber, NumberTooLarge, FloatLeftOut, Class, ArrayOpen, MapOpen, EmbedClose, ArrayClose, MapClose, ParenClose, Comma, Colon, EmbedOpen, ChunkOpen, SimpleOpen, Text, Bytes, TagOpen, Word, Front, WhiteSpace, Read, Bad, is_white, is_word, is_numeral, is_not, begins, mark_of, marked, are_digits, number, within, has_prefix, has_any, integer, signed, number_front, word_front, is_content, is_unclosed, IsText, IsHex, IsBase64, IsRun, IsIndicator, IsString, hexadecimal, base64, unknown, prefix_of, IsPrefixed, IsAfterWord, IsTag, Start, white, slash, hash, less, greater, paren, double, simple, letter, minus, digit, other, single, opening, ReadsFrom, Reads, IsMark, IsLiteral, IsNumeral, IsName, IsCoded, Takes, is_start, IsWord, IsPrefix, IsNoInteger, Fails, drop}
use Rattle.std.proofs.lemmas.Slice.Eq.{bytes_eq-Decides}
use Rattle.cborn_lex.specs.Good as good
use Rattle.cborn_lex.specs.Bad as bad
use Rattle.cborn_lex.proofs.GoodBack.{never, literal_is}
use Rattle.cborn_lex.proofs.BadNumbers.{float_is, no_within}
use Rattle.cborn_lex.proofs.OneFront.Quotes.{quoted}
use Rattle.cborn_lex.proofs.OneFront.Alone.{all_text}

-- taken as what it reads as, or it fails for that reason
abbrev pub Good : Profile → List ℕ → List ℕ → Front → Type 0
Good p s z WhiteSpace = Takes p s z None
Good p s z (Read k) = Takes p s z (Some k)
Good p s z (Bad r) = Fails p (s ++ z) r

put : (p : Profile) (c d : ℕ) (s t z : List ℕ) (a f : Front) → c ≡ d → s ≡ t → a ≡ f → Good p (d ∷ t) z f → Good p (c ∷ s) z a
put p c d s t z a f e g h k = subst (λ x. Good p (x ∷ s) z a) (sym e) (subst (λ x. Good p (d ∷ x) z a) (sym g) (subst (λ x. Good p (d ∷ t) z x) (sym h) k))

pub same_bytes : (xs ys : List ℕ) → bytes_eq xs ys ≡ true → xs ≡ ys
same_bytes xs ys h = (bytes_eq-Decides xs ys).0 h

pub assoc : (x y z : List ℕ) → (x ++ y) ++ z ≡ x ++ (y ++ z)
assoc x y z = simp append_assoc refl

-- the indicator _3 at the end of a text
three : IsMark (codes "_3") [] (Wide Eight)
three = ((refl, record { pass = refl; ends = refl }), refl)

-- f and an indicator after it, where f would be a token with any
marks : (p : Profile) (k : Mark → Class) (f s z : List ℕ) → IsIndicator s z → ((m : Mark) → IsMark s z m → Takes p (f ++ s) z (Some (k m))) → Takes p (f ++ codes "_3") [] (Some (k (Wide Eight))) → Good p (f ++ s) z (marked k (mark_of s))
marks p k f s z i h w = go (mark_of s) refl
  where
    go : (o : Option Mark) → mark_of s ≡ o → Good p (f ++ s) z (marked k o)
    go None e = subst (λ y. Fails p y BadIndicator) (sym (assoc f s z)) (bad.indicator f s z (k (Wide Eight)) w i e)
    go (Some m) e = h m (i, e)

-- what a start gives
abbrev Case : Start → (ℕ → Bool) → Type 0
Case k test = (p : Profile) (c : ℕ) (s z : List ℕ) (a : Front) → test c ≡ true → ReadsFrom k p c s z a → Good p (c ∷ s) z a

a_slash : Case slash (λ c. eqb c 47)
a_slash p c s z a e (inl (body, t, f)) = put p c 47 s (body ++ 47 ∷ []) z a WhiteSpace (eqb-true c 47 e) t.whole f (good.comment body z t.none)
a_slash p c s z a e (inr (l, f)) = put p c 47 s s z a (Bad UnclosedComment) (eqb-true c 47 e) refl f (subst (λ y. Fails p (47 ∷ y) UnclosedComment) (sym (all_text s z l.all)) (bad.comment s l.none))

a_hash : Case hash (λ c. eqb c 35)
a_hash One c s z a e h = put One c 35 s [] z a (Bad UnexpectedCharacter) (eqb-true c 35 e) h.0 h.1 (bad.hash z refl)
a_hash Two c s z a e (inl (body, t, f)) = put Two c 35 s (body ++ 10 ∷ []) z a WhiteSpace (eqb-true c 35 e) t.whole f (good.line body z refl t.none)
a_hash Two c s z a e (inr (l, f)) = put Two c 35 s s z a WhiteSpace (eqb-true c 35 e) refl f (subst (λ y. Takes Two (35 ∷ s) y None) (sym l.all) (good.last_line s refl l.none))

a_single : (k : Class) (d : ℕ) → ((p : Profile) (z : List ℕ) → Takes p (d ∷ []) z (Some k)) → Case (single k) (λ c. eqb c d)
a_single k d t p c s z a e h = put p c d s [] z a (Read k) (eqb-true c d e) h.0 h.1 (t p z)

a_less : Case less (λ c. eqb c 60)
a_less p c s z a e (inl (f, g)) = put p c 60 s (60 ∷ []) z a (Read EmbedOpen) (eqb-true c 60 e) f g (good.embed_open z)
a_less p c s z a e (inr (f, n, g)) = put p c 60 s [] z a (Bad UnexpectedCharacter) (eqb-true c 60 e) f g (bad.less z n)

a_greater : Case greater (λ c. eqb c 62)
a_greater p c s z a e (inl (mark, f, i, g)) = put p c 62 s (62 ∷ mark) z a (marked EmbedClose (mark_of mark)) (eqb-true c 62 e) f g (marks p EmbedClose (62 ∷ 62 ∷ []) mark z i (λ m j. good.embed_close mark z m j) (good.embed_close (codes "_3") [] (Wide Eight) three))
a_greater p c s z a e (inr (f, n, g)) = put p c 62 s [] z a (Bad UnexpectedCharacter) (eqb-true c 62 e) f g (bad.greater z n)

-- `(` and an underscore, which isn't the whole indicator
not_alone : (p : Profile) (s z : List ℕ) → IsIndicator s z → bytes_eq s [] ≡ false → bytes_eq s (codes "_") ≡ false → Fails p (40 ∷ s ++ z) BadIndicator
not_alone p [] z j e f = never (sym e)
not_alone p (c ∷ []) z j e f = never (sym f ∙ and_from (eqb c 95) true j.0 refl)
not_alone p (c ∷ d ∷ t) z j e f = subst (λ b. Fails p (40 ∷ b ∷ d ∷ t ++ z) BadIndicator) (sym (eqb-true c 95 j.0)) (bad.chunks (d ∷ t ++ z) (and_parts (is_word d) (list_all is_word t) j.1.pass).0)

a_paren : Case paren (λ c. eqb c 40)
a_paren p c s z a e h = go (bytes_eq s []) (bytes_eq s (codes "_")) refl refl h.1
  where
    go : (b d : Bool) → bytes_eq s [] ≡ b → bytes_eq s (codes "_") ≡ d → a ≡ cond b (Bad UnexpectedCharacter) (cond d (Read ChunkOpen) (Bad BadIndicator)) → Good p (c ∷ s) z a
    go true d i f g =
        let same = same_bytes s [] i in
        put p c 40 s [] z a (Bad UnexpectedCharacter) (eqb-true c 40 e) same g (bad.paren z (subst (λ t. IsIndicator t z) same h.0))
    go false true i f g =
        let same = same_bytes s (codes "_") f in
        let run = subst (λ t. IsIndicator t z) same h.0 in
        put p c 40 s (codes "_") z a (Read ChunkOpen) (eqb-true c 40 e) same g (good.chunk_open z run.1.ends)
    go false false i f g = put p c 40 s s z a (Bad BadIndicator) (eqb-true c 40 e) refl g (not_alone p s z h.0 i f)

at : (p : Profile) (l m z : List ℕ) (a f : Front) → l ≡ m → a ≡ f → Good p m z f → Good p l z a
at p l m z a f e g h = subst (λ x. Good p x z a) (sym e) (subst (λ x. Good p m z x) (sym g) h)

pub shift : (f x : List ℕ) (q : ℕ) (t : List ℕ) → f ++ (x ++ q ∷ t) ≡ (f ++ (x ++ q ∷ [])) ++ t
shift f x q t = sym (assoc f (x ++ q ∷ []) t ∙ ap (λ l. f ++ l) (assoc x (q ∷ []) t))

-- a string after f, which ends in its quote
strings : (p : Profile) (whole unclosed : List ℕ → Bool) (q : ℕ) (Is : List ℕ → List ℕ → Type 0) (r : LexReason) (k : List ℕ → Mark → Class) (f s z : List ℕ) (a : Front)
    → ((x b t y : List ℕ) (m : Mark) → whole x ≡ true → Is x b → IsMark t y m → Takes p (f ++ (x ++ q ∷ t)) y (Some (k b m)))
    → ((x y : List ℕ) → whole x ≡ true → ((b : List ℕ) → Is x b → ⊥) → Fails p (f ++ (x ++ q ∷ y)) r)
    → ((y : List ℕ) → unclosed y ≡ true → Fails p (f ++ y) UnclosedString)
    → IsString whole unclosed q Is r k s z a → Good p (f ++ s) z a
strings p whole unclosed q Is r k f s z a con content no_end (inl (x, mark, d, inl (b, is, g))) =
    let before = f ++ (x ++ q ∷ []) in
    at p (f ++ s) (before ++ mark) z a (marked (k b) (mark_of mark)) (ap (λ y. f ++ y) d.text ∙ shift f x q mark) g
    (marks p (k b) before mark z d.indicator (λ m i. subst (λ y. Takes p y z (Some (k b m))) (shift f x q mark) (con x b mark z m d.inside is i)) (subst (λ y. Takes p y [] (Some (k b (Wide Eight)))) (shift f x q (codes "_3")) (con x b (codes "_3") [] (Wide Eight) d.inside is three)))
strings p whole unclosed q Is r k f s z a con content no_end (inl (x, mark, d, inr (none, g))) =
    at p (f ++ s) (f ++ (x ++ q ∷ mark)) z a (Bad r) (ap (λ y. f ++ y) d.text) g
    (subst (λ y. Fails p y r) (sym (assoc f (x ++ q ∷ mark) z ∙ ap (λ l. f ++ l) (assoc x (q ∷ mark) z))) (content x (mark ++ z) d.inside none))
strings p whole unclosed q Is r k f s z a con content no_end (inr (u, n, g)) = at p (f ++ s) (f ++ s) z a (Bad UnclosedString) refl g (subst (λ y. Fails p y UnclosedString) (sym (all_text (f ++ s) z n)) (no_end s u))

-- no quote closes what is unclosed
no_close : (q : ℕ) → eqb q 92 ≡ false → (y : List ℕ) → is_unclosed q y ≡ true → (x z : List ℕ) → is_content q x ≡ true → y ≡ x ++ q ∷ z → ⊥
no_close q ne y u x z c e = (quoted q ne).apart x z c (subst (λ l. is_unclosed q l ≡ true) e u)

a_double : Case double (λ c. eqb c 34)
a_double p c s z a e h =
    put p c 34 s s z a a (eqb-true c 34 e) refl refl
    (strings p (is_content 34) (is_unclosed 34) 34 (IsText 34) BadEscape Text (34 ∷ []) s z a (λ x b t y m w is i. good.text x b t y m w is i) (λ x y w n. bad.escape 34 x y refl w n) (λ y u. bad.quote 34 y refl (no_close 34 refl y u)) h)

a_simple : Case simple (λ c. eqb c 39)
a_simple p c s z a e h =
    put p c 39 s s z a a (eqb-true c 39 e) refl refl
    (strings p (is_content 39) (is_unclosed 39) 39 (IsText 39) BadEscape (Bytes true) (39 ∷ []) s z a (λ x b t y m w is i. good.bytes x b t y m w is i) (λ x y w n. bad.escape 39 x y refl w n) (λ y u. bad.quote 39 y refl (no_close 39 refl y u)) h)

-- Numbers.

-- what a number without its minus is, by its value or the reason
abbrev pub Judged : Bool → List ℕ → Result ℕ LexReason → Type 0
Judged n x (Ok v) = IsLiteral x v × (v < 2 ^ 128)
Judged n x (Err r) = IsNoInteger n x r

valued : (n : Bool) (x : List ℕ) (v : ℕ) → IsLiteral x v → Judged n x (within v)
valued n x v l = go (ltb v (2 ^ 128)) refl
  where
    go : (b : Bool) → ltb v (2 ^ 128) ≡ b → Judged n x (cond b (Ok v) (Err NumberTooLarge))
    go true e = (l, ltb-true v (2 ^ 128) e)
    go false e = bad.large v l (ltb-false v (2 ^ 128) e)

bad_number : (n : Bool) (x : List ℕ) → integer n x ≡ Err BadNumber → IsNoInteger n x BadNumber
bad_number n x e = bad.bad (λ f. clash (integer n x) (integer n x) e (float_is n x f) refl) (λ v l. no_within v (sym (literal_is n x v l) ∙ e))
  where
    clash : (r s : Result ℕ LexReason) → r ≡ Err BadNumber → s ≡ Err FloatLeftOut → r ≡ s → ⊥
    clash r s e f k = cc

one_of : (a b t : Bool) → (a || b) ≡ t → (a || (b || false)) ≡ t
one_of a b t h1 = grind arith

no_base : (a b c d e f : Bool) → (a || b) ≡ false → (c || d) ≡ false → (e || f) ≡ false → (a || (b || (c || (d || (e || (f || false)))))) ≡ false
no_base a b c d e f i j k = let x = or_parts a b i in let y = or_parts c d j in let z = or_parts e f k in rw (x.0, x.1, y.0, y.1, z.0, z.1) refl

pub judge : (n : Bool) (x : List ℕ) (r : Result ℕ LexReason) → integer n x ≡ r → Judged n x r
judge n x r e =
    go (has_prefix (codes "0x") x || has_prefix (codes "0X") x) (are_digits 16 (drop 2 x)) (has_any (codes ".pP") (drop 2 x)) (has_prefix (codes "0o") x || has_prefix (codes "0O") x) (are_digits 8 (drop 2 x)) (has_prefix (codes "0b") x || has_prefix (codes "0B") x) (are_digits 2 (drop 2 x)) (are_digits 10 x) (bytes_eq x (codes "0") || not (has_prefix (codes "0") x)) (begins is_ascii_digit x && has_any (codes ".eE") x) (n && has_prefix (codes "Infinity") x) refl refl refl refl refl refl refl refl refl refl refl e
  where
    wrong : Err BadNumber ≡ r → Judged n x r
    wrong k = subst (Judged n x) k (bad_number n x (e ∙ sym k))

    go : (a h hp o od b bd d w f g : Bool) → (has_prefix (codes "0x") x || has_prefix (codes "0X") x) ≡ a → are_digits 16 (drop 2 x) ≡ h → has_any (codes ".pP") (drop 2 x) ≡ hp → (has_prefix (codes "0o") x || has_prefix (codes "0O") x) ≡ o → are_digits 8 (drop 2 x) ≡ od → (has_prefix (codes "0b") x || has_prefix (codes "0B") x) ≡ b → are_digits 2 (drop 2 x) ≡ bd → are_digits 10 x ≡ d → (bytes_eq x (codes "0") || not (has_prefix (codes "0") x)) ≡ w → (begins is_ascii_digit x && has_any (codes ".eE") x) ≡ f → (n && has_prefix (codes "Infinity") x) ≡ g
        → cond a (cond h (within (number 16 0 (drop 2 x))) (cond hp (Err FloatLeftOut) (Err BadNumber))) (cond o (cond od (within (number 8 0 (drop 2 x))) (Err BadNumber)) (cond b (cond bd (within (number 2 0 (drop 2 x))) (Err BadNumber)) (cond d (cond w (within (number 10 0 x)) (Err BadNumber)) (cond f (Err FloatLeftOut) (cond g (Err FloatLeftOut) (Err BadNumber)))))) ≡ r
        → Judged n x r
    go true true hp o od b bd d w f g e1 e2 eh e3 e4 e5 e6 e7 e8 ef eg k = subst (Judged n x) k (valued n x (number 16 0 (drop 2 x)) (good.hexadecimal x e1 e2))
    go true false true o od b bd d w f g e1 e2 eh e3 e4 e5 e6 e7 e8 ef eg k = subst (Judged n x) k (bad.float (bad.hexadecimal (one_of (has_prefix (codes "0x") x) (has_prefix (codes "0X") x) true e1) eh))
    go false h hp true true b bd d w f g e1 e2 eh e3 e4 e5 e6 e7 e8 ef eg k = subst (Judged n x) k (valued n x (number 8 0 (drop 2 x)) (good.octal x e3 e4))
    go false h hp false od true true d w f g e1 e2 eh e3 e4 e5 e6 e7 e8 ef eg k = subst (Judged n x) k (valued n x (number 2 0 (drop 2 x)) (good.binary x e5 e6))
    go false h hp false od false bd true true f g e1 e2 eh e3 e4 e5 e6 e7 e8 ef eg k = subst (Judged n x) k (valued n x (number 10 0 x) (good.decimal x e7 e8))
    go false h hp false od false bd false w true g e1 e2 eh e3 e4 e5 e6 e7 e8 ef eg k =
        let both = and_parts (begins is_ascii_digit x) (has_any (codes ".eE") x) ef in
        let none = no_base (has_prefix (codes "0x") x) (has_prefix (codes "0X") x) (has_prefix (codes "0o") x) (has_prefix (codes "0O") x) (has_prefix (codes "0b") x) (has_prefix (codes "0B") x) e1 e3 e5 in
        subst (Judged n x) k (bad.float (bad.decimal both.0 none both.1))
    go false h hp false od false bd false w false true e1 e2 eh e3 e4 e5 e6 e7 e8 ef eg k = let both = and_parts n (has_prefix (codes "Infinity") x) eg in subst (Judged n x) k (bad.float (bad.infinite both.0 both.1))
    go _ _ _ _ _ _ _ _ _ _ _ e1 e2 eh e3 e4 e5 e6 e7 e8 ef eg k = wrong k

around : (x y t z : List ℕ) → x ++ (y ++ (t ++ z)) ≡ (x ++ (y ++ t)) ++ z
around x y t z = sym (assoc x (y ++ t) z ∙ ap (λ l. x ++ l) (assoc y t z))

with_three : (x : List ℕ) (v : ℕ) → IsLiteral x v → v < 2 ^ 128 → list_all is_numeral x ≡ true → IsNumeral x (codes "_3") [] v (Wide Eight)
with_three x v l b e = record { literal = l; bounded = b; run = record { pass = e; ends = refl }; indicator = three }

a_minus : Case minus (λ c. eqb c 45)
a_minus p c s z a e (tagged, body, mark, tag, n, f) = put p c 45 s s z a a (eqb-true c 45 e) refl refl (go tag n.run n.indicator n.tagging n.whole (integer true body) refl f)
  where
    go : (tag : List ℕ) → IsRun is_numeral body (mark ++ (tag ++ z)) → IsIndicator mark (tag ++ z) → IsTag true tagged tag z → s ≡ body ++ (mark ++ tag) → (r : Result ℕ LexReason) → integer true body ≡ r → a ≡ number_front true tagged (mark_of mark) r → Good p (45 ∷ s) z a
    go tag run i t w (Err r) is f =
        at p (45 ∷ s) (45 ∷ body ++ (mark ++ tag)) z a (Bad r) (ap (λ y. 45 ∷ y) w) f
        (subst (λ y. Fails p (45 ∷ y) r) (around body mark tag z) (bad.negative body (mark ++ (tag ++ z)) r run (judge true body (Err r) is)))
    go [] run i t w (Ok v) is f =
        let l = judge true body (Ok v) is in
        at p (45 ∷ s) (45 ∷ body ++ mark) z a (marked (signed true v) (mark_of mark)) (ap (λ y. 45 ∷ y) (w ∙ ap (λ y. body ++ y) (append-nil mark))) (f ∙ ap (λ b. number_front true b (mark_of mark) (Ok v)) t.0)
        (marks p (signed true v) (45 ∷ body) mark z i (λ m j. good.negative body mark z v m (record { literal = l.0; bounded = l.1; run = run; indicator = j })) (good.negative body (codes "_3") [] v (Wide Eight) (with_three body v l.0 l.1 run.pass)))
    go (d ∷ t) run i h w (Ok v) is f = absurd (let bad : true ≡ false = h.1 in cc)

digit_numeral : (c : ℕ) → is_ascii_digit c ≡ true → is_numeral c ≡ true
digit_numeral c e = rw e refl

a_digit : Case digit is_ascii_digit
a_digit p c s z a e (tagged, body, mark, tag, n, f) = go tag n.run n.indicator n.tagging n.whole (integer false (c ∷ body)) refl f
  where
    longer : (y : List ℕ) → IsRun is_numeral body y → IsRun is_numeral (c ∷ body) y
    longer y r = record { pass = rw (digit_numeral c e, r.pass) refl; ends = r.ends }

    go : (tag : List ℕ) → IsRun is_numeral body (mark ++ (tag ++ z)) → IsIndicator mark (tag ++ z) → IsTag false tagged tag z → s ≡ body ++ (mark ++ tag) → (r : Result ℕ LexReason) → integer false (c ∷ body) ≡ r → a ≡ number_front false tagged (mark_of mark) r → Good p (c ∷ s) z a
    go tag run i t w (Err r) is f =
        at p (c ∷ s) (c ∷ body ++ (mark ++ tag)) z a (Bad r) (ap (λ y. c ∷ y) w) f
        (subst (λ y. Fails p (c ∷ y) r) (around body mark tag z) (bad.positive (c ∷ body) (mark ++ (tag ++ z)) r e (longer (mark ++ (tag ++ z)) run) (judge false (c ∷ body) (Err r) is)))
    go [] run i t w (Ok v) is f =
        let l = judge false (c ∷ body) (Ok v) is in
        at p (c ∷ s) (c ∷ body ++ mark) z a (marked (signed false v) (mark_of mark)) (ap (λ y. c ∷ y) (w ∙ ap (λ y. body ++ y) (append-nil mark))) (f ∙ ap (λ b. number_front false b (mark_of mark) (Ok v)) t.0)
        (marks p (signed false v) (c ∷ body) mark z i (λ m j. good.positive (c ∷ body) mark z v m (record { literal = l.0; bounded = l.1; run = longer (mark ++ z) run; indicator = j }) t.1) (good.positive (c ∷ body) (codes "_3") [] v (Wide Eight) (with_three (c ∷ body) v l.0 l.1 (longer (mark ++ z) run).pass) refl))
    go (d ∷ t) run i h w (Ok v) is f =
        let l = judge false (c ∷ body) (Ok v) is in
        let one : d ∷ t ≡ 40 ∷ [] = ap (λ x. x ∷ t) (eqb-true d 40 h.2) ∙ ap (λ y. 40 ∷ y) h.3 in
        let run' : IsRun is_numeral body (mark ++ (40 ∷ z)) = subst (λ y. IsRun is_numeral body (mark ++ (y ++ z))) one run in
        let i' : IsIndicator mark (40 ∷ z) = subst (λ y. IsIndicator mark (y ++ z)) one i in
        at p (c ∷ s) (c ∷ body ++ (mark ++ 40 ∷ [])) z a (marked (TagOpen v) (mark_of mark)) (ap (λ y. c ∷ y) (w ∙ ap (λ y. body ++ (mark ++ y)) one)) (f ∙ ap (λ b. number_front false b (mark_of mark) (Ok v)) h.0)
        (tags (mark_of mark) refl i' (with_three (c ∷ body) v l.0 l.1 (longer (mark ++ 40 ∷ z) run').pass) (λ m j. good.tag (c ∷ body) mark z v m (record { literal = l.0; bounded = l.1; run = longer (mark ++ 40 ∷ z) run'; indicator = j })))
      where
        tags : (o : Option Mark) → mark_of mark ≡ o → IsIndicator mark (40 ∷ z) → IsNumeral (c ∷ body) (codes "_3") [] v (Wide Eight) → ((m : Mark) → IsMark mark (40 ∷ z) m → Takes p (c ∷ body ++ (mark ++ 40 ∷ [])) z (Some (TagOpen v m))) → Good p (c ∷ body ++ (mark ++ 40 ∷ [])) z (marked (TagOpen v) o)
        tags None e i n h = subst (λ y. Fails p (c ∷ y) BadIndicator) (around body mark (40 ∷ []) z) (bad.indicator (c ∷ body) mark (40 ∷ z) (signed false v (Wide Eight)) (good.positive (c ∷ body) (codes "_3") [] v (Wide Eight) n refl) i e)
        tags (Some m) e i n h = h m (i, e)

-- Words.

named : (p : Profile) (w z : List ℕ) (n : ℕ) (v : List ℕ) → IsName v n → bytes_eq w v ≡ true → begins is_word z ≡ false → begins (λ c. eqb c 39) z ≡ false → Takes p w z (Some (Word n))
named p w z n v i e f g = good.word w z n (subst (λ u. IsName u n) (sym (same_bytes w v e)) i) (rw (f, g) refl)

unnamed : (w : List ℕ) (n : ℕ) → IsName w n → bytes_eq w (codes "false") ≡ false → bytes_eq w (codes "true") ≡ false → bytes_eq w (codes "null") ≡ false → bytes_eq w (codes "undefined") ≡ false → ⊥
unnamed w n h1 h2 h3 h4 h5 = grind arith

a_word : (p : Profile) (w z : List ℕ) → IsWord w z → begins (λ c. eqb c 39) z ≡ false → (bytes_eq w (codes "simple") && begins (λ c. eqb c 40) z) ≡ false → Good p w z (word_front w)
a_word p w z word g s =
    go (bytes_eq w (codes "false")) (bytes_eq w (codes "true")) (bytes_eq w (codes "null")) (bytes_eq w (codes "undefined")) (has_prefix (codes "NaN") w || has_prefix (codes "Infinity") w) refl refl refl refl refl
  where
    go : (a b c d e : Bool) → bytes_eq w (codes "false") ≡ a → bytes_eq w (codes "true") ≡ b → bytes_eq w (codes "null") ≡ c → bytes_eq w (codes "undefined") ≡ d → (has_prefix (codes "NaN") w || has_prefix (codes "Infinity") w) ≡ e → Good p w z (cond a (Read (Word 20)) (cond b (Read (Word 21)) (cond c (Read (Word 22)) (cond d (Read (Word 23)) (cond e (Bad FloatLeftOut) (Bad UnexpectedCharacter))))))
    go true b c d e h i j k l = named p w z 20 (codes "false") good.is_false h word.run.ends g
    go false true c d e h i j k l = named p w z 21 (codes "true") good.is_true i word.run.ends g
    go false false true d e h i j k l = named p w z 22 (codes "null") good.is_null j word.run.ends g
    go false false false true e h i j k l = named p w z 23 (codes "undefined") good.is_undefined k word.run.ends g
    go false false false false true h i j k l = bad.float w z word g l
    go false false false false false h i j k l = bad.word w z word g l (λ n name. unnamed w n name h i j k) s

unprefixed : (w : List ℕ) (r : LexReason) → IsPrefix w r → bytes_eq w (codes "h") ≡ false → bytes_eq w (codes "b64") ≡ false → ⊥
unprefixed w r h1 h2 h3 = grind arith

hex_coded : (w x b : List ℕ) → IsCoded w x b → bytes_eq w (codes "h") ≡ true → IsHex x b
hex_coded w x b h1 h2 = grind arith

base64_coded : (w x b : List ℕ) → IsCoded w x b → bytes_eq w (codes "b64") ≡ true → IsBase64 x b
base64_coded w x b h1 h2 = grind arith

-- a prefix, and a content in its alphabet up to the next quote
coded : (p : Profile) (w t z : List ℕ) (a : Front) (Is : List ℕ → List ℕ → Type 0) (r : LexReason) → IsPrefix w r → ((x b : List ℕ) → Is x b → IsCoded w x b) → ((x b : List ℕ) → IsCoded w x b → Is x b)
    → IsString (list_all (is_not 39)) (list_all (is_not 39)) 39 Is r (Bytes false) t z a → Good p (w ++ 39 ∷ t) z a
coded p w t z a Is r prefix to from h =
    subst (λ y. Good p y z a) (assoc w (39 ∷ []) t)
    (strings p (list_all (is_not 39)) (list_all (is_not 39)) 39 Is r (Bytes false) (w ++ 39 ∷ []) t z a
    (λ x b u y m n is i. subst (λ l. Takes p l y (Some (Bytes false b m))) (sym (assoc w (39 ∷ []) (x ++ 39 ∷ u))) (good.coded w x b u y m (to x b is) n i))
    (λ x y n none. subst (λ l. Fails p l r) (sym (assoc w (39 ∷ []) (x ++ 39 ∷ y))) (bad.content w x y r prefix n (λ b is. none b (from x b is))))
    (λ y n. subst (λ l. Fails p l UnclosedString) (sym (assoc w (39 ∷ []) y)) (bad.unclosed w y r prefix n)) h)

prefixed : (p : Profile) (w t z : List ℕ) (a : Front) → begins is_ascii_alphabetic w ≡ true → list_all is_word w ≡ true → IsPrefixed (prefix_of w) t z a → Good p (w ++ 39 ∷ t) z a
prefixed p w t z a first pass h = go (bytes_eq w (codes "h")) (bytes_eq w (codes "b64")) refl refl h
  where
    go : (b d : Bool) → bytes_eq w (codes "h") ≡ b → bytes_eq w (codes "b64") ≡ d → IsPrefixed (cond b hexadecimal (cond d base64 unknown)) t z a → Good p (w ++ 39 ∷ t) z a
    go true d e f h = let same = sym (same_bytes w (codes "h") e) in coded p w t z a IsHex BadHex (subst (λ v. IsPrefix v BadHex) same bad.hex) (λ x b is. subst (λ v. IsCoded v x b) same (good.hex x b is)) (λ x b is. hex_coded w x b is e) h
    go false true e f h = let same = sym (same_bytes w (codes "b64") f) in coded p w t z a IsBase64 BadBase64 (subst (λ v. IsPrefix v BadBase64) same bad.base64) (λ x b is. subst (λ v. IsCoded v x b) same (good.base64 x b is)) (λ x b is. base64_coded w x b is f) h
    go false false e f h =
        at p (w ++ 39 ∷ t) (w ++ 39 ∷ []) z a (Bad UnknownPrefix) (ap (λ l. w ++ 39 ∷ l) h.0) h.1
        (subst (λ l. Fails p l UnknownPrefix) (sym (assoc w (39 ∷ []) z)) (bad.unknown w z (record { letter = first; run = record { pass = pass; ends = refl } }) (λ r i. unprefixed w r i e f)))

in_either : (d u l w : Bool) → (u || l) ≡ true → (((d || u) || l) || w) ≡ true
in_either d u l w h1 = grind arith

a_letter : Case letter is_ascii_alphabetic
a_letter p c s z a e (word, after, run, whole, h) = at p (c ∷ s) ((c ∷ word) ++ after) z a a (ap (λ y. c ∷ y) whole) refl (go after run h)
  where
    all : list_all is_word word ≡ true → list_all is_word (c ∷ word) ≡ true
    all k = and_from (is_word c) (list_all is_word word) (in_either (is_ascii_digit c) (is_in_range 65 90 c) (is_in_range 97 122 c) (eqb c 95) e) k

    go : (after : List ℕ) → IsRun is_word word (after ++ z) → IsAfterWord (c ∷ word) after z a → Good p ((c ∷ word) ++ after) z a
    go [] run h = at p ((c ∷ word) ++ []) (c ∷ word) z a (word_front (c ∷ word)) (append-nil (c ∷ word)) h.2 (a_word p (c ∷ word) z (record { letter = e; run = record { pass = all run.pass; ends = run.ends } }) h.0 h.1)
    go (d ∷ t) run (inl (q, h)) = subst (λ x. Good p ((c ∷ word) ++ x ∷ t) z a) (sym (eqb-true d 39 q)) (prefixed p (c ∷ word) t z a e (all run.pass) h)
    go (d ∷ t) run (inr (q, w, n, f)) =
        at p ((c ∷ word) ++ d ∷ t) (codes "simple(") z a (Read SimpleOpen)
        (ap (λ y. y ++ d ∷ t) (same_bytes (c ∷ word) (codes "simple") w) ∙ ap (λ x. codes "simple" ++ x ∷ t) (eqb-true d 40 q) ∙ ap (λ y. codes "simple" ++ 40 ∷ y) n) f (good.simple z)

no_start : (c : ℕ) → is_white c ≡ false → is_ascii_digit c ≡ false → is_ascii_alphabetic c ≡ false → eqb c 47 ≡ false → eqb c 35 ≡ false → eqb c 91 ≡ false → eqb c 123 ≡ false → eqb c 93 ≡ false → eqb c 125 ≡ false → eqb c 41 ≡ false → eqb c 44 ≡ false → eqb c 58 ≡ false → eqb c 60 ≡ false → eqb c 62 ≡ false → eqb c 40 ≡ false → eqb c 34 ≡ false → eqb c 39 ≡ false → eqb c 45 ≡ false → is_start c ≡ false
no_start c h1 h2 h3 h4 h5 h6 h7 h8 h9 h10 h11 h12 h13 h14 h15 h16 h17 h18 = grind arith

-- LAW: what reads is taken, or fails
pub taken : (p : Profile) (s z : List ℕ) (a : Front) → Reads p s z a → Good p s z a
taken p [] z a h = absurd h
taken p (c ∷ s) z a h = go (is_white c) (eqb c 47) (eqb c 35) (eqb c 91) (eqb c 123) (eqb c 93) (eqb c 125) (eqb c 41) (eqb c 44) (eqb c 58) (eqb c 60) (eqb c 62) (eqb c 40) (eqb c 34) (eqb c 39) (eqb c 45) (is_ascii_digit c) (is_ascii_alphabetic c) refl refl refl refl refl refl refl refl refl refl refl refl refl refl refl refl refl refl h
  where
    go : (b0 b1 b2 b3 b4 b5 b6 b7 b8 b9 b10 b11 b12 b13 b14 b15 b16 b17 : Bool) → is_white c ≡ b0 → eqb c 47 ≡ b1 → eqb c 35 ≡ b2 → eqb c 91 ≡ b3 → eqb c 123 ≡ b4 → eqb c 93 ≡ b5 → eqb c 125 ≡ b6 → eqb c 41 ≡ b7 → eqb c 44 ≡ b8 → eqb c 58 ≡ b9 → eqb c 60 ≡ b10 → eqb c 62 ≡ b11 → eqb c 40 ≡ b12 → eqb c 34 ≡ b13 → eqb c 39 ≡ b14 → eqb c 45 ≡ b15 → is_ascii_digit c ≡ b16 → is_ascii_alphabetic c ≡ b17 → ReadsFrom (cond b0 white (cond b1 slash (cond b2 hash (cond b3 (opening ArrayOpen) (cond b4 (opening MapOpen) (cond b5 (single ArrayClose) (cond b6 (single MapClose) (cond b7 (single ParenClose) (cond b8 (single Comma) (cond b9 (single Colon) (cond b10 less (cond b11 greater (cond b12 paren (cond b13 double (cond b14 simple (cond b15 minus (cond b16 digit (cond b17 letter other)))))))))))))))))) p c s z a → Good p (c ∷ s) z a
    go true b1 b2 b3 b4 b5 b6 b7 b8 b9 b10 b11 b12 b13 b14 b15 b16 b17 e0 e1 e2 e3 e4 e5 e6 e7 e8 e9 e10 e11 e12 e13 e14 e15 e16 e17 h = put p c c s [] z a WhiteSpace refl h.0 h.1 (good.white c z e0)
    go false true b2 b3 b4 b5 b6 b7 b8 b9 b10 b11 b12 b13 b14 b15 b16 b17 e0 e1 e2 e3 e4 e5 e6 e7 e8 e9 e10 e11 e12 e13 e14 e15 e16 e17 h = a_slash p c s z a e1 h
    go false false true b3 b4 b5 b6 b7 b8 b9 b10 b11 b12 b13 b14 b15 b16 b17 e0 e1 e2 e3 e4 e5 e6 e7 e8 e9 e10 e11 e12 e13 e14 e15 e16 e17 h = a_hash p c s z a e2 h
    go false false false true b4 b5 b6 b7 b8 b9 b10 b11 b12 b13 b14 b15 b16 b17 e0 e1 e2 e3 e4 e5 e6 e7 e8 e9 e10 e11 e12 e13 e14 e15 e16 e17 h = put p c 91 s s z a (marked ArrayOpen (mark_of s)) (eqb-true c 91 e3) refl h.1 (marks p ArrayOpen (91 ∷ []) s z h.0 (λ m i. good.array_open s z m i) (good.array_open (codes "_3") [] (Wide Eight) three))
    go false false false false true b5 b6 b7 b8 b9 b10 b11 b12 b13 b14 b15 b16 b17 e0 e1 e2 e3 e4 e5 e6 e7 e8 e9 e10 e11 e12 e13 e14 e15 e16 e17 h = put p c 123 s s z a (marked MapOpen (mark_of s)) (eqb-true c 123 e4) refl h.1 (marks p MapOpen (123 ∷ []) s z h.0 (λ m i. good.map_open s z m i) (good.map_open (codes "_3") [] (Wide Eight) three))
    go false false false false false true b6 b7 b8 b9 b10 b11 b12 b13 b14 b15 b16 b17 e0 e1 e2 e3 e4 e5 e6 e7 e8 e9 e10 e11 e12 e13 e14 e15 e16 e17 h = a_single ArrayClose 93 (λ q y. good.array_close y) p c s z a e5 h
    go false false false false false false true b7 b8 b9 b10 b11 b12 b13 b14 b15 b16 b17 e0 e1 e2 e3 e4 e5 e6 e7 e8 e9 e10 e11 e12 e13 e14 e15 e16 e17 h = a_single MapClose 125 (λ q y. good.map_close y) p c s z a e6 h
    go false false false false false false false true b8 b9 b10 b11 b12 b13 b14 b15 b16 b17 e0 e1 e2 e3 e4 e5 e6 e7 e8 e9 e10 e11 e12 e13 e14 e15 e16 e17 h = a_single ParenClose 41 (λ q y. good.paren_close y) p c s z a e7 h
    go false false false false false false false false true b9 b10 b11 b12 b13 b14 b15 b16 b17 e0 e1 e2 e3 e4 e5 e6 e7 e8 e9 e10 e11 e12 e13 e14 e15 e16 e17 h = a_single Comma 44 (λ q y. good.comma y) p c s z a e8 h
    go false false false false false false false false false true b10 b11 b12 b13 b14 b15 b16 b17 e0 e1 e2 e3 e4 e5 e6 e7 e8 e9 e10 e11 e12 e13 e14 e15 e16 e17 h = a_single Colon 58 (λ q y. good.colon y) p c s z a e9 h
    go false false false false false false false false false false true b11 b12 b13 b14 b15 b16 b17 e0 e1 e2 e3 e4 e5 e6 e7 e8 e9 e10 e11 e12 e13 e14 e15 e16 e17 h = a_less p c s z a e10 h
    go false false false false false false false false false false false true b12 b13 b14 b15 b16 b17 e0 e1 e2 e3 e4 e5 e6 e7 e8 e9 e10 e11 e12 e13 e14 e15 e16 e17 h = a_greater p c s z a e11 h
    go false false false false false false false false false false false false true b13 b14 b15 b16 b17 e0 e1 e2 e3 e4 e5 e6 e7 e8 e9 e10 e11 e12 e13 e14 e15 e16 e17 h = a_paren p c s z a e12 h
    go false false false false false false false false false false false false false true b14 b15 b16 b17 e0 e1 e2 e3 e4 e5 e6 e7 e8 e9 e10 e11 e12 e13 e14 e15 e16 e17 h = a_double p c s z a e13 h
    go false false false false false false false false false false false false false false true b15 b16 b17 e0 e1 e2 e3 e4 e5 e6 e7 e8 e9 e10 e11 e12 e13 e14 e15 e16 e17 h = a_simple p c s z a e14 h
    go false false false false false false false false false false false false false false false true b16 b17 e0 e1 e2 e3 e4 e5 e6 e7 e8 e9 e10 e11 e12 e13 e14 e15 e16 e17 h = a_minus p c s z a e15 h
    go false false false false false false false false false false false false false false false false true b17 e0 e1 e2 e3 e4 e5 e6 e7 e8 e9 e10 e11 e12 e13 e14 e15 e16 e17 h = a_digit p c s z a e16 h
    go false false false false false false false false false false false false false false false false false true e0 e1 e2 e3 e4 e5 e6 e7 e8 e9 e10 e11 e12 e13 e14 e15 e16 e17 h = a_letter p c s z a e17 h
    go false false false false false false false false false false false false false false false false false false e0 e1 e2 e3 e4 e5 e6 e7 e8 e9 e10 e11 e12 e13 e14 e15 e16 e17 h = put p c c s [] z a (Bad UnexpectedCharacter) refl h.0 h.1 (bad.other c z (no_start c e0 e16 e17 e1 e2 e3 e4 e5 e6 e7 e8 e9 e10 e11 e12 e13 e14 e15))
