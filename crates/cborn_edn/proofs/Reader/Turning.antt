-- What one token does, by its kind.
use Rattle.std.specs.Prelude.{◌≡◌, ◌<◌, ◌≤◌, ◌∷◌, ◌++◌, ◌⊎◌}
use Rattle.cborn_edn.proofs.Common.{separator_of, true, false, refl, sym, ap, ◌∙◌, subst, ℕ, List, [], length, Bool, true, false, Option, Some, None, append-nil, arith, inl, inr, length-append, Kind, Mark, Class, class_of, content_of, top, no_part, OfBytes, OfText, IsWritten, Speller, Span, Item, Pieces, StringsBefore, row, no_item, after_row, Content, loose, tight, pairs, after_pairs, at_home, Here, Writer, Phase, wanting, phase_of, stack_in, Shows, content_state, Holds, states_around, states_around_nest, states_around_home, Handed, AllHanded, IsSpelled, Reads, Ready, Turned, Taken, Takes, Turns, EndsPieces, is_some, is_piece, takes_no_piece, Stack, in_row, in_key, in_value, at_top, in_embed, Home, as_item, as_chunk, State, wants, has, builds, wants_chunk, wants_number, has_number, step_by}
use Rattle.cborn_edn.specs.declared.states.Phase.TheVariants as phases
use Rattle.cborn_edn.specs.devices.Kept.{chunks_of}
use Rattle.cborn_edn.proofs.HandedOver.Handing.{stays}
use Rattle.cborn_edn.proofs.Reader.Showing.{standing}
use Rattle.cborn_edn.proofs.HandedOver.Silent.{handed_comma, handed_pairs_comma, handed_close_simple, handed_same, around_string}

-- what is taken of the class is taken of an equal one
pub taken_as : (h : Holds) (ok : Bool) (s : State) (c k : Class) (a : Span) (next : Here) (left : Writer) → c ≡ k → Taken h ok s k a next left → Taken h ok s c a next left
taken_as h ok s c k a next left e t = subst (λ (x : Class). Taken h ok s x a next left) (sym e) t

module _ {h : Holds} (k : Holds) (kind like : Kind) (number place : ℕ) (here next : Here) (writer left : Writer) (ok : Bool) (s : State) (is : kind ≡ like) where
  -- by what was appended
  pub arm : ((x base : List ℕ) (a : Span) → place ≡ a.start → writer.pieces.items ≡ base ++ content_of (class_of like number x) → Reads h here writer base s → Taken k ok s (class_of like number x) a next left) → Takes h k kind number place here writer next left ok s
  arm h1 = grind arith

  -- where nothing was
  pub appends_nothing : ((x : List ℕ) → content_of (class_of like number x) ≡ []) → ((x : List ℕ) (a : Span) → place ≡ a.start → Reads h here writer writer.pieces.items s → Taken k ok s (class_of like number x) a next left) → Takes h k kind number place here writer next left ok s
  appends_nothing none f = arm (λ x base a p e shows. f x a p (subst (λ l. Reads h here writer l s) (sym (e ∙ ap (λ l. base ++ l) (none x) ∙ append-nil base)) shows))

  -- of a token that appends nothing there
  pub turn : ((x : List ℕ) (a : Span) → place ≡ a.start → Reads h here writer writer.pieces.items s → Taken k ok s (class_of like number x) a next left) → Turns h k kind number place here writer next left ok s
  turn h1 = grind arith

-- The tokens that hand nothing over.

abbrev StaysHanded : Holds → State → Class → Span → Type 0
StaysHanded h s c a = (ps : List Speller) (u : State) → step_by s c a ≡ Some u → AllHanded h ps (s ∷ states_around (stack_in s)) → AllHanded h ps (u ∷ states_around (stack_in u))

pub still_taken : (h : Holds) (ok : Bool) (s : State) (c : Class) (a : Span) (next : Here) (left : Writer) → StaysHanded h s c a → AllHanded h left.spellers (s ∷ states_around (stack_in s)) → Turned ok s c a next left → Taken h ok s c a next left
still_taken h ok s c a next left h1 h2 h3 = grind arith

led : (h : Holds) (ps : List Speller) (v u : State) → Some v ≡ Some u → AllHanded h ps (v ∷ states_around (stack_in v)) → AllHanded h ps (u ∷ states_around (stack_in u))
led h ps v u is = let e : v ≡ u = cc in subst (λ (w : State). AllHanded h ps (w ∷ states_around (stack_in w))) e

none_led : {A : Type 0} (u : State) → None ≡ Some u → A
none_led u is = absurd (let bad : None ≡ Some u = is in cc)

pub separator_handed : (h : Holds) (m : Bool) (st : Stack) (i : Item) (a : Span) → StaysHanded h (has st i) (separator_of m) a
separator_handed h true (in_key st s m b) i a ps u is t = led h ps (wants (in_value st s m b i a)) u is (stays h ps (has (in_key st s m b) i) (wants (in_value st s m b i a)) (states_around st) (λ k. (handed_same k (has (in_key st s m b) i) (wants (in_value st s m b i a)) refl (λ q. q))) t)
separator_handed h true (in_row at_top b) i a ps u is t = none_led u is
separator_handed h true _ i a ps u is t = none_led u is
separator_handed h false (in_row n b) i a ps u is t = led h ps (wants (in_row n (after_row (row b i) a))) u is (stays h ps (has (in_row n b) i) (wants (in_row n (after_row (row b i) a))) (states_around_nest n) (λ k. handed_comma k n b i a) t)
separator_handed h false (in_value st s m b k c) i a ps u is t = led h ps (wants (in_key st s m (after_pairs (pairs b k c i) a))) u is (stays h ps (has (in_value st s m b k c) i) (wants (in_key st s m (after_pairs (pairs b k c i) a))) (states_around st) (λ q. handed_pairs_comma q st s m b k c i a) t)
separator_handed h false _ i a ps u is t = none_led u is

pub paren_handed : (h : Holds) (st : Stack) (s b : Span) (n : Bool) (v : ℕ) (m : Mark) (c : Class) (a : Span) → StaysHanded h (has_number st s b n v m) c a
paren_handed h st s b n v m c a = grind (arith, handed_close_simple, led, none_led, stays)

-- what was handed over in a `<<`, to its speller
pub spelled_in : (h : Holds) (ps : List Speller) (s v : State) (ss : List State) → AllHanded h ps (s ∷ v ∷ ss) → IsSpelled ps s
spelled_in h ps s v ss h1 = grind arith

pub content_spelled : (h : Holds) (ps : List Speller) (home : Home) (o : Option Pieces) (s : Span) (c : Content) → let u = content_state (in_embed home o s) c in AllHanded h ps (u ∷ states_around (stack_in u)) → IsSpelled ps u
content_spelled h ps home o s (loose b) t = spelled_in h ps (wants (in_row (in_embed home o s) b)) (at_home home o) (states_around_home home) t
content_spelled h ps home o s (tight (row b i)) t = spelled_in h ps (has (in_row (in_embed home o s) b) i) (at_home home o) (states_around_home home) t

-- a `<<` opens
pub embed_taken : (h : Holds) (p : Speller) (was left : Writer) (here next : Here) (home : Home) (o : Option Pieces) (a : Span) → left.spellers ≡ p ∷ was.spellers → IsWritten p (top []) no_part → Reads h here was was.pieces.items (at_home home o) → Shows next left left.pieces.items (wants (in_row (in_embed home o a) no_item)) → Reads h next left left.pieces.items (wants (in_row (in_embed home o a) no_item))
embed_taken h p was left here next home o a e new r shows = record {
  shows = shows;
  handed = subst (λ ps. AllHanded h ps (wants (in_row (in_embed home o a) no_item) ∷ states_around (in_row (in_embed home o a) no_item))) (sym e) (((λ q. (new, tt)), subst (λ (ss : List State). AllHanded h was.spellers (at_home home o ∷ ss)) (around_string home o) r.handed));
}

-- the visitor holds what it held
pub same_handed : (h : Holds) (was left : Writer) (s u : State) (ss : List State) → left.spellers ≡ was.spellers → ((k : Holds) → Handed k s → Handed k u) → AllHanded h was.spellers (s ∷ ss) → AllHanded h left.spellers (u ∷ ss)
same_handed h was left s u ss e f t = subst (λ ps. AllHanded h ps (u ∷ ss)) (sym e) (stays h was.spellers s u ss f t)

-- the state, by the phase
data Wanting (st : Stack) : Type 0 where
  first : wanting st ≡ phases.Wants → Wanting st
  again : wanting st ≡ phases.WantsMore → Wanting st

wanted : (st : Stack) → Wanting st
wanted st = grind arith

-- the numbers of the phases, of which no two are the same
abbrev number : Phase → ℕ
number phases.Wants = 0
number phases.WantsMore = 1
number phases.Has = 2
number phases.Builds = 3
number phases.WantsChunk = 4
number phases.WantsNumber = 5
number phases.HasNumber = 6

pub apart : {A : Type 0} (x y : Phase) → x ≡ y → (number x ≡ number y → ⊥) → A
apart x y e f = absurd (f (ap number e))

not_wanted : {A : Type 0} (st : Stack) (x : Phase) → wanting st ≡ x → 1 < number x → A
not_wanted st x e h = elim (wanted st) [ first f ↦ absurd (let k : number x ≡ 0 = ap number (sym e ∙ f) in omega arith) | again f ↦ absurd (let k : number x ≡ 1 = ap number (sym e ∙ f) in omega arith) ]

pub is_has : (s : State) → phase_of s ≡ phases.Has → (st : Stack) × (i : Item) × (has st i ≡ s)
is_has (has st i) e = (st, i, refl)
is_has (wants st) e = not_wanted st phases.Has e (omega arith)
is_has _ e = apart _ _ e (λ f. omega arith)

pub is_wants : (s : State) → (phase_of s ≡ phases.Wants) ⊎ (phase_of s ≡ phases.WantsMore) → (st : Stack) × (wants st ≡ s)
is_wants (wants st) e = (st, refl)
is_wants _ (inl e) = apart _ _ e (λ f. omega arith)
is_wants _ (inr e) = apart _ _ e (λ f. omega arith)

pub is_builds : (s : State) → phase_of s ≡ phases.Builds → (h : Home) × (ps : Pieces) × (builds h ps ≡ s)
is_builds (builds h ps) e = (h, ps, refl)
is_builds (wants st) e = not_wanted st phases.Builds e (omega arith)
is_builds _ e = apart _ _ e (λ f. omega arith)

pub is_wants_number : (s : State) → phase_of s ≡ phases.WantsNumber → (st : Stack) × (p : Span) × (wants_number st p ≡ s)
is_wants_number (wants_number st p) e = (st, p, refl)
is_wants_number (wants st) e = not_wanted st phases.WantsNumber e (omega arith)
is_wants_number _ e = apart _ _ e (λ f. omega arith)

pub is_has_number : (s : State) → phase_of s ≡ phases.HasNumber → (st : Stack) × (at : Span) × (b : Span) × (n : Bool) × (v : ℕ) × (m : Mark) × (has_number st at b n v m ≡ s)
is_has_number (has_number st p b n v m) e = (st, p, b, n, v, m, refl)
is_has_number (wants st) e = not_wanted st phases.HasNumber e (omega arith)
is_has_number _ e = apart _ _ e (λ f. omega arith)

-- a string that is no chunk
pub item_home : (h : Home) → is_some (chunks_of h) ≡ false → (st : Stack) × (as_item st ≡ h)
item_home (as_item st) e = (st, refl)
item_home (as_chunk st s b) e = absurd (let bad : true ≡ false = e in cc)

pub chunk_home : (h : Home) → is_some (chunks_of h) ≡ true → (st : Stack) × (at : Span) × (b : StringsBefore) × (as_chunk st at b ≡ h)
chunk_home (as_chunk st s b) e = (st, s, b, refl)
chunk_home (as_item st) e = absurd (let bad : false ≡ true = e in cc)

pub not_text : {A : Type 0} → OfBytes ≡ OfText → A
not_text e = absurd (let bad : OfBytes ≡ OfText = e in cc)

pub taken_same : (h : Holds) (ok : Bool) (s t : State) (k : Class) (a : Span) (next : Here) (left : Writer) → step_by s k a ≡ step_by t k a → Taken h ok t k a next left → Taken h ok s k a next left
taken_same h ok s t k a next left h1 h2 = grind arith

-- a kind that begins no piece
pub no_piece : (kind : Kind) (n : ℕ) (x : List ℕ) → is_piece kind ≡ false → EndsPieces (class_of kind n x)
no_piece kind n x h1 = grind arith

pub no_content : (kind : Kind) (n : ℕ) (x : List ℕ) → is_piece kind ≡ false → content_of (class_of kind n x) ≡ []
no_content kind n x h1 = grind arith

-- a token that is no piece appends nothing
pub shown_kind : {holds : Holds} (kind : Kind) (number : ℕ) (here : Here) (writer : Writer) (s : State) (base : List ℕ) (c : Class) → is_piece kind ≡ false → Ready holds kind number here writer s base c → Reads holds here writer writer.pieces.items s
shown_kind kind number here writer s base c h1 h2 = grind (arith, append-nil, no_content)

pub bare_taken : {h : Holds} (k : Holds) (kind : Kind) (number place : ℕ) (here next : Here) (writer left : Writer) (ok : Bool) (t s : State) → is_piece kind ≡ false → t ≡ s → Turns h k kind number place here writer next left ok t → Takes h k kind number place here writer next left ok s
bare_taken {h = h} k kind number place here next writer left ok t s none e f = subst (λ (u : State). Takes h k kind number place here writer next left ok u) e (λ base c a p r. f c r.stands.content a p r.stands.class (shown_kind kind number here writer t base c none r))

-- a state in which a string begins or goes on
adds : (s : State) → takes_no_piece (phase_of s) ≡ false → (home : Home) × (before : Option Pieces) × (at_home home before ≡ s)
adds (wants st) e = (as_item st, None, refl)
adds (wants_chunk st s b) e = (as_chunk st s b, None, refl)
adds (builds (as_item st) ps) e = (as_item st, Some ps, refl)
adds (builds (as_chunk st s b) ps) e = (as_chunk st s b, Some ps, refl)
adds _ e = absurd (let bad : true ≡ false = e in cc)

pub adding : {h : Holds} (kind : Kind) (number place : ℕ) (here next : Here) (writer left : Writer) (s : State) → takes_no_piece here.phase ≡ false → ((home : Home) (o : Option Pieces) → Takes h h kind number place here writer next left true (at_home home o)) → Takes h h kind number place here writer next left true s
adding {h = h} kind number place here next writer left s none f base c a p r =
    let d = adds s (ap takes_no_piece (sym r.shows.shows.phase) ∙ none) in
    subst (λ (u : State). Takes h h kind number place here writer next left true u) d.2 (f d.0 d.1) base c a p r

-- the bytes of the innermost string begin in what was read
pub start_inside : {h : Holds} (kind : Kind) (number : ℕ) (here : Here) (writer : Writer) (s : State) (base : List ℕ) (c : Class) → takes_no_piece here.phase ≡ false → Ready h kind number here writer s base c → writer.start ≤ length writer.pieces.items
start_inside kind number here writer s base c h1 h2 = grind (arith, adds, length-append, standing)

-- where a chunk is wanted, no other token is taken
pub no_chunk : (s : State) (c : Class) (a : Span) → phase_of s ≡ phases.WantsChunk → EndsPieces c → step_by s c a ≡ None
no_chunk s c a h1 h2 = grind arith

pub no_piece_taken : (s : State) (kind : Kind) (n : ℕ) (x : List ℕ) (a : Span) → takes_no_piece (phase_of s) ≡ true → is_piece kind ≡ true → step_by s (class_of kind n x) a ≡ None
no_piece_taken s kind n x a h1 h2 = grind arith
