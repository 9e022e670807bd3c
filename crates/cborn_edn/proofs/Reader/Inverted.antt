-- Which state is shown, by the phase and the level.
use Rattle.std.specs.Prelude.{◌≡◌, ◌<◌}
use Rattle.cborn_edn.proofs.Common.{refl, ℕ, List, length, Bool, true, false, Option, Some, None, arith, Mark, EmbedClose, ParenClose, Comma, Colon, Span, Item, Pieces, row, RowBefore, no_item, after_row, Content, loose, tight, pairs, PairsBefore, loose_fields, tight_fields, array, embedded, Phase, Has, Here, Writer, level_of, stack_in, phase_of, Shows, content_state, Sized, of_array, of_map, is_in, is_row, ends_sized, sized_end, MayEnd, Stack, in_row, in_key, in_value, in_tag, Nest, at_top, in_array, in_embed, Home, State, wants, has, builds, with_piece, step_by, never, map_item as map, Level}
use Rattle.cborn_edn.specs.declared.states.Level.TheVariants as levels

-- a state that may end
pub data Ending : State → Type 0 where
  wanted : (st : Stack) → Ending (wants st)
  whole : (st : Stack) (i : Item) → Ending (has st i)

pub ending : (s : State) → MayEnd s → Ending s
ending (wants st) x = wanted st
ending (has st i) x = whole st i
ending _ x = absurd x

-- an array or a map that may end
pub sized_at : (m : Bool) (s : State) (a : Span) → Ending s → ends_sized m (phase_of s) (level_of (stack_in s)) ≡ true → (u : State) × (step_by s (sized_end m) a ≡ Some u) × Sized a s u
sized_at false u a (wanted (in_row (in_array st p m) b)) e = (has st (array p m (loose b) a), refl, of_array st p m (loose b))
sized_at false u a (whole (in_row (in_array st p m) b) i) e = (has st (array p m (tight (row b i)) a), refl, of_array st p m (tight (row b i)))
sized_at true u a (wanted (in_key st p m b)) e = (has st (map p m (loose_fields b) a), refl, of_map st p m (loose_fields b))
sized_at true u a (whole (in_value st p m b k c) v) e = (has st (map p m (tight_fields (pairs b k c v)) a), refl, of_map st p m (tight_fields (pairs b k c v)))
sized_at true u a (wanted (in_row at_top no_item)) e = never e
sized_at true u a (wanted (in_row at_top (after_row r c))) e = never e
sized_at true u a (wanted (in_row (in_array st s m) no_item)) e = never e
sized_at true u a (wanted (in_row (in_array st s m) (after_row r c))) e = never e
sized_at true u a (wanted (in_row (in_embed h o s) no_item)) e = never e
sized_at true u a (wanted (in_row (in_embed h o s) (after_row r c))) e = never e
sized_at true u a (whole (in_row at_top b) i) e = never e
sized_at _ u a _ e = never e

pub no_sized : (m : Bool) (s : State) (a : Span) → Ending s → ends_sized m (phase_of s) (level_of (stack_in s)) ≡ false → step_by s (sized_end m) a ≡ None
no_sized m s a h1 h2 = grind arith

-- a `<<` that may end
pub embed_at : (s : State) → Ending s → is_in levels.Embedded (level_of (stack_in s)) ≡ true → (h : Home) × (o : Option Pieces) × (at : Span) × (c : Content) × (content_state (in_embed h o at) c ≡ s)
embed_at u (wanted (in_row (in_embed h o p) b)) e = (h, o, p, loose b, refl)
embed_at u (whole (in_row (in_embed h o p) b) i) e = (h, o, p, tight (row b i), refl)
embed_at u _ e = never e

pub embed_step : (h : Home) (o : Option Pieces) (p a : Span) (m : Mark) (c : Content) → step_by (content_state (in_embed h o p) c) (EmbedClose m) a ≡ Some (builds h (with_piece o (embedded p c a m)))
embed_step h o p a m c = grind arith

pub no_embed : (s : State) (m : Mark) (a : Span) → Ending s → is_in levels.Embedded (level_of (stack_in s)) ≡ false → step_by s (EmbedClose m) a ≡ None
no_embed s m a h1 h2 = grind arith

-- after an item
pub tag_at : (st : Stack) → is_in levels.Tag (level_of st) ≡ true → (around : Stack) × (at : Span) × (n : ℕ) × (m : Mark) × (in_tag around at n m ≡ st)
tag_at (in_tag st p n m) e = (st, p, n, m, refl)
tag_at (in_row at_top b) e = never e
tag_at _ e = never e

pub no_tag : (st : Stack) (i : Item) (a : Span) → is_in levels.Tag (level_of st) ≡ false → step_by (has st i) ParenClose a ≡ None
no_tag st i a h1 = grind arith

pub key_at : (st : Stack) → is_in levels.Key (level_of st) ≡ true → (around : Stack) × (at : Span) × (m : Mark) × (b : PairsBefore) × (in_key around at m b ≡ st)
key_at (in_key st p m b) e = (st, p, m, b, refl)
key_at (in_row at_top b) e = never e
key_at _ e = never e

pub no_key : (st : Stack) (i : Item) (a : Span) → is_in levels.Key (level_of st) ≡ false → step_by (has st i) Colon a ≡ None
no_key st i a h1 = grind arith

pub value_at : (st : Stack) → is_in levels.Value (level_of st) ≡ true → (around : Stack) × (at : Span) × (m : Mark) × (b : PairsBefore) × (k : Item) × (colon : Span) × (in_value around at m b k colon ≡ st)
value_at (in_value st p m b k c) e = (st, p, m, b, k, c, refl)
value_at (in_row at_top b) e = never e
value_at _ e = never e

pub row_at : (st : Stack) → is_row (level_of st) ≡ true → (n : Nest) × (b : RowBefore) × (in_row n b ≡ st)
row_at (in_row n b) e = (n, b, refl)
row_at _ e = never e

pub no_comma : (st : Stack) (i : Item) (a : Span) → is_in levels.Value (level_of st) ≡ false → is_row (level_of st) ≡ false → step_by (has st i) Comma a ≡ None
no_comma st i a h1 h2 = grind arith

pub is_open : (f : Level → Bool) (here : Here) (w : Writer) (out : List ℕ) (s : State) → f levels.Outside ≡ false → f here.level ≡ true → Shows here w out s → 0 < length w.brackets
is_open f here w out s h1 h2 h3 = grind arith

pub sized_phase : {a : Span} {s u : State} → Sized a s u → phase_of u ≡ Has
sized_phase h1 = grind arith

pub sized_none : (m : Bool) (p : Phase) → ends_sized m p levels.Outside ≡ false
sized_none m p = grind arith
