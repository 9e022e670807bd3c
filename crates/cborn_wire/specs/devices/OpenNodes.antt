-- A device of the proofs: the partial sequence that the visitor which builds nodes holds. No definition cites it; the contracts of the crate's own functions do.
use Rattle.std.specs.Prelude.{◌≡◌, List, [], ◌∷◌, ◌++◌, map, Option, Some, None}
use Rattle.std.specs.Option.{option_to_list}
use Rattle.cborn_model.specs.Tree.{Tree}
use Rattle.cborn_model.specs.Partial.{an_array, a_map, a_tag, in_chunks, Partial, top, inside, Part, no_part, part, built}
use Rattle.cborn_model.specs.shared.Walks.{flat, string_of}
use Rattle.cborn_wire.specs.declared.nodes.OpenNode.{OpenNode}
use Rattle.cborn_wire.specs.declared.nodes.OpenNode.TheVariants.{Input, Items, Pairs, Tag, Chunks}
use Rattle.cborn_wire.specs.declared.nodes.OpenString.{OpenString}
use Rattle.cborn_wire.specs.declared.nodes.Nodes.{Nodes}

-- a container in a partial sequence
abbrev pub within : Partial → OpenNode → Partial
within f (Input nodes) = top nodes.items
within f (Items h items) = inside f (an_array h.place h.size h.count) items.items
within f (Pairs h pairs key) = inside f (a_map h.place h.size h.count) (flat pairs.items ++ option_to_list key)
within f (Tag p w n content) = inside f (a_tag p w n) (option_to_list content)
within f (Chunks p k chunks) = inside f (in_chunks p k) (map (string_of k) chunks.items)

-- containers one inside another, the outermost first
abbrev pub around : Partial → List OpenNode → Partial
around f [] = f
around f (k ∷ ks) = around (within f k) ks

abbrev pub seen_string : Option OpenString → Part
seen_string None = no_part
seen_string (Some s) = part s.place s.kind s.width s.len s.bytes.items

abbrev pub seen_nodes : Nodes → Partial
seen_nodes n = within (around (top []) n.outer.items) n.innermost

abbrev pub IsHeld : Nodes → Partial → Part → Type 0
IsHeld n f c = (f ≡ seen_nodes n) × (c ≡ seen_string n.string)

-- the node of the innermost container, if it may end
abbrev pub ended : Partial → Option Tree
ended (top ts) = None
ended (inside f (a_tag p w n) []) = None
ended (inside f o ts) = Some (built o ts)
