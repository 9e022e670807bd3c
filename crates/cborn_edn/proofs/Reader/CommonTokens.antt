-- Tokens, white space and comments, from the characters at an offset of a text.
use Rattle.std.specs.Prelude.{if◌then◌else◌, ◌≡◌, ◌+◌, ◌<◌, ◌∷◌, ◌++◌}
use Rattle.cborn_edn.proofs.Common.{Bool, false, ArrayClose, MapClose, Colon, Comma, separator_of, sized_end, refl, sym, ap, ◌∙◌, subst, ℕ, List, [], length, take, drop, get_or, true, Some, None, arith, append_assoc, append-nil, drop-append_seam, drop-drop, drop_more, take-append-drop, length-take-le, list_all, Profile, Class, is_white, is_not, Covers, TokensBetween, IsTokenAt, length-append, length-drop, ProfileTwo as Two}
use Rattle.cborn_lex.specs.Good as good
use Rattle.cborn_lex.specs.Good.{Takes}
pub use Rattle.cborn_lex.proofs.WholeTexts.Progress.{joins as join, nothing}

-- what follows the slice s
rest_of : (text s z : List ℕ) (at stop : ℕ) → drop at text ≡ s ++ z → stop ≡ at + length s → drop stop text ≡ z
rest_of text s z at stop w e = ap (λ n. drop n text) e ∙ sym (drop-drop (length s) at text) ∙ ap (drop (length s)) w ∙ drop-append_seam s z

-- LAW: a token, if its slice is at the place
pub token_here : (profile : Profile) (text s z : List ℕ) (at stop : ℕ) (k : Class) → drop at text ≡ s ++ z → stop ≡ at + length s → Takes profile s z (Some k) → IsTokenAt profile text at stop k
token_here profile text s z at stop k w e t =
    subst (λ (x : List ℕ). Covers profile at x (record { start = at; stop = stop; class = k } ∷ []) stop (drop stop text)) (sym w)
    (subst (λ (y : List ℕ). Covers profile at (s ++ z) (record { start = at; stop = stop; class = k } ∷ []) stop y) (sym (rest_of text s z at stop w e))
    (subst (λ (m : ℕ). Covers profile at (s ++ z) (record { start = at; stop = m; class = k } ∷ []) m z) (sym e) (good.token at (at + length s) k s z z [] t (good.end (at + length s) z))))

-- LAW: white space or a comment, if its slice is at the place
pub white_space_here : (profile : Profile) (text s z : List ℕ) (at stop : ℕ) → drop at text ≡ s ++ z → stop ≡ at + length s → Takes profile s z None → TokensBetween profile text at stop []
white_space_here profile text s z at stop w e t =
    subst (λ (x : List ℕ). Covers profile at x [] stop (drop stop text)) (sym w)
    (subst (λ (y : List ℕ). Covers profile at (s ++ z) [] stop y) (sym (rest_of text s z at stop w e))
    (subst (λ (m : ℕ). Covers profile at (s ++ z) [] m z) (sym e) (good.white_space at (at + length s) s z z [] t (good.end (at + length s) z))))

-- the text from a place on begins with the character there
pub begins_here : (text : List ℕ) (at c : ℕ) → at < length text → get_or text at 0 ≡ c → drop at text ≡ c ∷ drop (at + 1) text
begins_here text at c h e = drop_more text at 0 h ∙ ap (λ d. d ∷ drop (at + 1) text) e

-- LAW: a token of one character
pub single_here : (profile : Profile) (text : List ℕ) (at c : ℕ) (k : Class) → at < length text → get_or text at 0 ≡ c → ((z : List ℕ) → Takes profile (c ∷ []) z (Some k)) → IsTokenAt profile text at (at + 1) k
single_here profile text at c k h e t = token_here profile text (c ∷ []) (drop (at + 1) text) at (at + 1) k (begins_here text at c h e) refl (t (drop (at + 1) text))

pub sized_end_here : (m : Bool) (profile : Profile) (text : List ℕ) (at : ℕ) → at < length text → get_or text at 0 ≡ (if m then 125 else 93) → IsTokenAt profile text at (at + 1) (sized_end m)
sized_end_here true profile text at h e = single_here profile text at 125 MapClose h e (λ z. good.map_close z)
sized_end_here false profile text at h e = single_here profile text at 93 ArrayClose h e (λ z. good.array_close z)

pub separator_here : (m : Bool) (profile : Profile) (text : List ℕ) (at : ℕ) → at < length text → get_or text at 0 ≡ (if m then 58 else 44) → IsTokenAt profile text at (at + 1) (separator_of m)
separator_here true profile text at h e = single_here profile text at 58 Colon h e (λ z. good.colon z)
separator_here false profile text at h e = single_here profile text at 44 Comma h e (λ z. good.comma z)

-- White space and comments.

pub white_here : (profile : Profile) (text : List ℕ) (at : ℕ) → at < length text → is_white (get_or text at 0) ≡ true → TokensBetween profile text at (at + 1) []
white_here profile text at h w = white_space_here profile text (get_or text at 0 ∷ []) (drop (at + 1) text) at (at + 1) (begins_here text at (get_or text at 0) h refl) refl (good.white (get_or text at 0) (drop (at + 1) text) w)

-- a slice that begins with c and goes up to and with the next q, and what follows it
pub ended : (text tail : List ℕ) (at i c q : ℕ) → at < length text → get_or text at 0 ≡ c → tail ≡ drop (at + 1) text → i < length tail → get_or tail i 0 ≡ q → (drop at text ≡ (c ∷ take i tail ++ q ∷ []) ++ drop (i + 1) tail) × (at + i + 2 ≡ at + length (c ∷ take i tail ++ q ∷ []))
ended text tail at i c q h e t l f = (begins_here text at c h e ∙ ap (λ y. c ∷ y) (sym t ∙ (sym (take-append-drop i tail) ∙ ap (λ y. take i tail ++ y) (drop_more tail i 0 l ∙ ap (λ d. d ∷ drop (i + 1) tail) f) ∙ sym (append_assoc (take i tail) (q ∷ []) (drop (i + 1) tail)))), omega (arith, length-append (take i tail) (q ∷ []), length-take-le i tail (omega (arith, l))))

ended_here : (profile : Profile) (text tail : List ℕ) (at i c q : ℕ) → at < length text → get_or text at 0 ≡ c → tail ≡ drop (at + 1) text → i < length tail → get_or tail i 0 ≡ q → ((z : List ℕ) → Takes profile (c ∷ take i tail ++ q ∷ []) z None) → TokensBetween profile text at (at + i + 2) []
ended_here profile text tail at i c q h e t l f k =
    let s = ended text tail at i c q h e t l f in
    white_space_here profile text (c ∷ take i tail ++ q ∷ []) (drop (i + 1) tail) at (at + i + 2) s.0 s.1 (k (drop (i + 1) tail))

pub comment_here : (profile : Profile) (text tail : List ℕ) (at i : ℕ) → at < length text → get_or text at 0 ≡ 47 → tail ≡ drop (at + 1) text → i < length tail → list_all (is_not 47) (take i tail) ≡ true → get_or tail i 0 ≡ 47 → TokensBetween profile text at (at + i + 2) []
comment_here profile text tail at i h e t l a f = ended_here profile text tail at i 47 47 h e t l f (λ z. good.comment (take i tail) z a)

pub line_here : (text tail : List ℕ) (at i : ℕ) → at < length text → get_or text at 0 ≡ 35 → tail ≡ drop (at + 1) text → i < length tail → list_all (is_not 10) (take i tail) ≡ true → get_or tail i 0 ≡ 10 → TokensBetween Two text at (at + i + 2) []
line_here text tail at i h e t l a f = ended_here Two text tail at i 35 10 h e t l f (λ z. good.line (take i tail) z refl a)

pub last_line_here : (text tail : List ℕ) (at : ℕ) → at < length text → get_or text at 0 ≡ 35 → tail ≡ drop (at + 1) text → list_all (is_not 10) tail ≡ true → TokensBetween Two text at (length text) []
last_line_here text tail at h e t a =
    let whole : drop at text ≡ (35 ∷ tail) ++ [] = begins_here text at 35 h e ∙ ap (λ y. 35 ∷ y) (sym t ∙ sym (append-nil tail)) in
    let size : length text ≡ at + length (35 ∷ tail) = omega (arith, h, ap length t, length-drop (at + 1) text) in
    white_space_here Two text (35 ∷ tail) [] at (length text) whole size (good.last_line tail refl a)
