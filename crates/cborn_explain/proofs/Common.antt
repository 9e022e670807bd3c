-- The names that the proofs of this crate use, each from where it is defined.
pub use Rattle.std.proofs.Common.{Bool, Err, IfOk, List, None, Ok, Option, Result, Some, [], alloc_error, ap, append-nil, append_assoc, arith, cond, drop, eqb, false, get_or, inl, inr, leb, length, length-append, ltb, refl, subst, suc, sym, take, true, unwrap_or, zero, zero-add, ℕ, ◌∙◌}
pub use Rattle.std.proofs.Math.Seq.{take-append_seam}
pub use Rattle.std.proofs.lemmas.Bool.{cases_lt, le-ltb, lt-ltb, ltb-true}
pub use Rattle.std.proofs.lemmas.List.{length-drop, length-take-le, take-append-drop, take-append-le, take_all, take_at, take_more}
pub use Rattle.cborn_model.specs.Partial.{Opening, Part, Partial, a_map, a_tag, an_array, built, in_chunks, inside, last_key, no_part, paired, part, top}
pub use Rattle.cborn_model.specs.Spelled.{Fits, FitsAll, spelled, spelled_all}
pub use Rattle.cborn_model.specs.Tree.{Tree, Trees, depth_all, trees}
pub use Rattle.cborn_wire.specs.Slots.{AreOpen, OpenContainer, beginning, beginnings, open_depth, opened, opening, slot, slot_in}
pub use Rattle.cborn_wire.specs.declared.faults.WireReason.{WireReason}
pub use Rattle.cborn_wire.specs.declared.levels.Level.{Level}
pub use Rattle.cborn_wire.specs.shared.Machine.{Failed, Goal, Live, State, Unfinished, after_head, argument_of, at_slot, begin_head, content_of, ended, finished, front, gather, gathering, holding, is_full, nothing, number, partial_bytes, ready_in, run, start, step, unless}
pub use Rattle.cborn_wire.specs.shared.Visiting.{HereAt, IsFed, Reads, head_at, lessened, level_in, levels, next_head, open_in, ready, seen_head, unfinished}
pub use Rattle.cborn_engine.specs.declared.places.Places.{Places}
pub use Rattle.cborn_engine.specs.devices.Tops.{IsHeld, IsStringAt}
pub use Rattle.cborn_explain.specs.Paths.{DifferFirstAt, EndsAt, LeadsTo, LeadsToDifference, step_in, step_in_map, steps, up_to_key}
pub use Rattle.cborn_explain.specs.declared.paths.Step.{Step}
pub use Rattle.cborn_explain.specs.devices.Walks.{IsOver, IsWalked, Opened, path_of, place_at, place_in, step_of}
