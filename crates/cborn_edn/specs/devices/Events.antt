-- A device of the proofs: what a visitor holds after each event. No definition cites it.
use Rattle.std.specs.Prelude.{ℕ, ◌<◌, ◌^◌, List, [], ◌∷◌, length, Bool, None, IsTrue, if◌then◌else◌}
use Rattle.cborn_edn.specs.Common.{Direct, WidthFits, least, is_simple_value, Tree, Bytes, Tagged, Simple, trees, FitsAll, Opening, an_array, a_map, a_tag, in_chunks, paired, Partial, top, inside, Part, no_part, put, built, integer_tree, string_tree, chunks_tree, IsFree, Ends, Proper, TakesString, Event, Integer, Bignum, Map, String, FirstChunk, NoChunks, Close}
use Rattle.cborn_edn.specs.declared.events.Event.TheVariants.{Simple as SimpleValue, Array, Tag}

-- what a visitor holds
abbrev pub Holds : Type 1
Holds = Partial → Part → Type 0

-- a tag over a byte string, as an integer outside 64 bits is one
abbrev pub bignum_of : ℕ → Bool → List ℕ → Tree
bignum_of p below x = Tagged p Direct (if below then 3 else 2) (Bytes p (least (length x)) x)

-- the event may be handed over with this content
abbrev pub Fits : Event → List ℕ → Type 0
Fits (Integer b w n) x = WidthFits w n
Fits (SimpleValue n) x = IsTrue (is_simple_value n)
Fits (Tag w n) x = WidthFits w n
Fits (String k w) x = WidthFits w (length x)
Fits (FirstChunk q k w) x = WidthFits w (length x)
Fits _ x = Unit {0}

-- a head that is open fits its width; how many items or pairs come isn't known yet
abbrev pub OpeningFits : Opening → Type 0
OpeningFits (an_array p s None) = Unit {0}
OpeningFits (a_map p s None) = Unit {0}
OpeningFits (a_tag p w n) = WidthFits w n
OpeningFits (in_chunks p k) = Unit {0}
OpeningFits _ = ⊥

-- what is whole in a partial sequence fits its heads
abbrev pub FitsSoFar : Partial → Type 0
FitsSoFar (top ts) = FitsAll (trees ts)
FitsSoFar (inside f o ts) = FitsSoFar f × OpeningFits o × FitsAll (trees ts)

-- a head can say how many items or pairs these are
abbrev pub AreFew : Opening → List Tree → Type 0
AreFew (an_array p s c) ts = length ts < 2 ^ 64
AreFew (a_map p s c) ts = length (paired ts) < 2 ^ 64
AreFew _ ts = Unit {0}

-- it may be next in a partial sequence
abbrev pub Comes : Event → Partial → Type 0
Comes (String k w) f = Proper f × TakesString f k
Comes Close (inside f o ts) = IsFree f × Ends o ts × AreFew o ts
Comes Close (top ts) = ⊥
Comes _ f = IsFree f

-- and this is what it makes of it
abbrev pub after : Event → ℕ → List ℕ → Partial → Partial
after (Integer b w n) p x f = put f (integer_tree p b w n)
after (Bignum b) p x f = put f (bignum_of p b x)
after (SimpleValue n) p x f = put f (Simple p n)
after (Array s) p x f = inside f (an_array p s None) []
after (Map s) p x f = inside f (a_map p s None) []
after (Tag w n) p x f = inside f (a_tag p w n) []
after (String k w) p x f = put f (string_tree p k w x)
after (FirstChunk q k w) p x f = inside f (in_chunks q k) (string_tree p k w x ∷ [])
after (NoChunks k) p x f = put f (chunks_tree p k [])
after Close p x (inside f o ts) = put f (built o ts)
after Close p x (top ts) = top ts

-- if a visitor held h before the event, it holds k after it
abbrev pub Follows : Event → ℕ → List ℕ → Holds → Holds → Type 0
Follows event p x h k = (f : Partial) → Comes event f → h f no_part → k (after event p x f) no_part
