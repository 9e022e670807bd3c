-- Inputs that are known.
use Rattle.std.specs.Prelude.{◌≡◌, ◌≤◌, ◌∷◌}
use Rattle.cborn_engine.proofs.Common.{ℕ, List, [], length, inl, inr, Option, Some, Err, append-nil, arith, Consumes, IsAtEnd, AllZip, Tree, trees, Value, Means, WireFault, Profile, EdnFault, InvalidReason, IsRefusalOfAll, EngineFault, Kind, IsNotation, Spells, Holds, IsNotationFault, IsRefused, IsNoRefusal, LoadAnswers, IsNoFlaw, larger_limit, not_both, LexFault, larger, Invalid, no_flaw}
use Rattle.cborn_engine.proofs.Held.Meant.{in_place, means_too}
use Rattle.cborn_engine.proofs.Held.Notated.{no_stop, no_syntax_error, no_error}

pub whole : (x input : List ℕ) (after : Option (List ℕ)) → Consumes (Some x) after input → IsAtEnd after → input ≡ x
whole x input after h1 h2 = grind (arith, append-nil)

spells_more : (k : Kind) (limit most : ℕ) (x : List ℕ) (ns : List Tree) → limit ≤ most → Spells k limit x ns → Spells k most x ns
spells_more Kind.Wire limit most x ns l h = larger_limit limit most (trees ns) x l h
spells_more Kind.Notation limit most x ns l h = (h.0, larger Profile.One limit most x (trees ns) l h.1)
spells_more Kind.Notation2 limit most x ns l h = (h.0, larger Profile.Two limit most x (trees ns) l h.1)

pub holds_more : (k : Kind) (limit most : ℕ) (x : List ℕ) (vs : List Value) → limit ≤ most → Holds k limit x vs → Holds k most x vs
holds_more k limit most x vs l h = record { nodes = h.nodes; spelled = spells_more k limit most x h.nodes l h.spelled; meant = h.meant }

-- nodes that mean items have no flaw
pub flawless : (ns : List Tree) (vs : List Value) (p : ℕ) (r : InvalidReason) → AllZip Means ns vs → IsRefusalOfAll ns (Invalid.Refused p r) → ⊥
flawless [] vs p r m h = cc
flawless (n ∷ ns) [] p r m h = absurd m
flawless (n ∷ ns) (v ∷ vs) p r m (inl h) = no_flaw n v m.0 p r h.is
flawless (n ∷ ns) (v ∷ vs) p r m (inr h) = flawless ns vs p r m.1 h.1

-- a text that notates nodes isn't refused
reported : (p : Profile) (limit : ℕ) (x : List ℕ) (ns : List Tree) (why : EdnFault) → IsNotation p limit x ns → IsNotationFault p limit x why → ⊥
reported p limit x ns (EdnFault.Lex (LexFault.Refused q r)) h f = no_stop p limit x ns h q r f.1
reported p limit x ns (EdnFault.Lex LexFault.OutOfMemory) h f = absurd f.1
reported p limit x ns (EdnFault.Refused q r) h (u, inl f) = no_syntax_error p limit x ns h q r f
reported p limit x ns (EdnFault.Refused q r) h (u, inr f) = no_error p limit x ns h q r f
reported p limit x ns EdnFault.OutOfMemory h f = absurd f

-- nodes that are spelled are read
notated : (k : Kind) (limit most : ℕ) (x : List ℕ) (ns : List Tree) (why : EdnFault) → Spells k limit x ns → IsRefused k limit most x (EngineFault.Edn why) → ⊥
notated Kind.Wire limit most x ns why h f = absurd f
notated Kind.Notation limit most x ns why h f = reported Profile.One limit x ns why h f.1
notated Kind.Notation2 limit most x ns why h f = reported Profile.Two limit x ns why h f.1

wellformed : (k : Kind) (limit most : ℕ) (x : List ℕ) (ns : List Tree) (why : WireFault) → Spells k limit x ns → IsRefused k limit most x (EngineFault.Wire why) → ⊥
wellformed Kind.Wire limit most x ns (WireFault.Refused p r) h f = not_both limit x p r (trees ns, h) f.1
wellformed Kind.Wire limit most x ns WireFault.OutOfMemory h f = absurd f
wellformed _ limit most x ns why h f = absurd f

text : (k : Kind) (limit most : ℕ) (x : List ℕ) (ns : List Tree) (p : ℕ) → Spells k limit x ns → IsRefused k limit most x (EngineFault.TextInput p) → ⊥
text Kind.Wire limit most x ns p h f = absurd f
text _ limit most x ns p h f = f.1 h.0

-- nodes that are spelled are loaded
unloaded : (k : Kind) (limit most : ℕ) (x : List ℕ) (ns : List Tree) (why : EngineFault) → length x ≤ most → Spells k limit x ns → IsRefused k limit most x why → IsNoFlaw why → IsNoRefusal why
unloaded k limit most x ns why h1 h2 h3 h4 = grind (arith, notated, text, wellformed)

pub nodes_loaded : (k : Kind) (limit most : ℕ) (x : List ℕ) (ns : List Tree) (why : EngineFault) → length x ≤ most → Spells k limit x ns → LoadAnswers k limit most x (Err why) → IsNoRefusal why
nodes_loaded k limit most x ns why l h f = unloaded k limit most x ns why l h f.0 f.1

pub input_read : (k : Kind) (limit most : ℕ) (x : List ℕ) (vs : List Value) (why : EngineFault) → length x ≤ most → Holds k limit x vs → IsRefused k limit most x why → IsNoRefusal why
input_read k limit most x vs why h1 h2 h3 = grind (arith, flawless, in_place, means_too, unloaded)
