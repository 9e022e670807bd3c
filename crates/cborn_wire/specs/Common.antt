-- The names that contracts and proofs use, each from where it is defined.
pub use Rattle.cborn_model.specs.Bytes.{AreBytes}
pub use Rattle.cborn_model.specs.Heads.{Argument, EndlessArgument, Given, IsHead, SizeFits, WidthFits, argument, code, following, head, head_bytes, information, is_simple_value, least}
pub use Rattle.cborn_model.specs.Partial.{AreStrings, CountFits, Ends, Goes, IsAll, IsFree, IsMore, IsString, Opening, Part, Partial, Proper, TakesItem, TakesString, a_map, a_tag, an_array, built, chunks_of, chunks_tree, ended_size, in_chunks, inside, last_key, no_part, paired, part, put, string_tree, top, whole}
pub use Rattle.cborn_model.specs.Placed.{ChunksPlaced, Placed, PlacedAll, PlacedEntries}
pub use Rattle.cborn_model.specs.Spelled.{ChunksFit, Fits, FitsAll, FitsEntries, IsSpelled, Wellformed, chunk_bytes, chunks, ending, spelled, spelled_all, spelled_entries, string}
pub use Rattle.cborn_model.specs.Tree.{ByteChunks, Bytes, Entries, Items, Nint, Pairs, Simple, Tagged, Text, TextChunks, Tree, Trees, Uint, count, count_entries, depth, depth_all, depth_entries, entries, entry, more, no_entry, no_item, trees}
pub use Rattle.cborn_model.specs.View.{tree_of}
pub use Rattle.cborn_model.specs.declared.heads.Major.{Major}
pub use Rattle.cborn_model.specs.declared.heads.Major.TheVariants.{Array, ByteString, Map, Negative, Other, Tag, TextString, Unsigned}
pub use Rattle.cborn_model.specs.declared.heads.Size.{Size}
pub use Rattle.cborn_model.specs.declared.heads.Size.TheVariants.{Endless, Fixed}
pub use Rattle.cborn_model.specs.declared.heads.Width.{Width}
pub use Rattle.cborn_model.specs.declared.heads.Width.TheVariants.{Direct, Eight, Four, One, Two}
pub use Rattle.cborn_model.specs.declared.nodes.Chunk.{Chunk}
pub use Rattle.cborn_model.specs.shared.Runs.{AreShortIntegers, AtKey, InArray, IsInteger, IsShortLeaf, IsShortPair, puts, text_in}
pub use Rattle.cborn_model.specs.shared.Walks.{flat, string_of}
pub use Rattle.cborn_wire.specs.Faults.{BeginsHead, Fault, GoesOn, IsReason, IsWellformed, judged}
pub use Rattle.cborn_wire.specs.Feeding.{Accepts, AreComplete, Feeding, Feeds, Refuses, RunsShort, fresh}
pub use Rattle.cborn_wire.specs.HeadReading.{ArgumentFits, IsFrontOfHead, IsHeadOf, ReadsHead, count_in, major_at, reason_alone, seen_argument, size_in}
pub use Rattle.cborn_wire.specs.Places.{all_from, chunks_from, entries_from, placed_from}
pub use Rattle.cborn_wire.specs.Reading.{EndsItem, IsFirstItem, ItemFault}
pub use Rattle.cborn_wire.specs.SlotFaults.{SlotRefused, begins_low, needs_item, reason_at, reason_of}
pub use Rattle.cborn_wire.specs.Slots.{Announces, AreOpen, HeadFits, IsNoString, MayBegin, OfBytes, OfText, Open, OpenContainer, Slot, StringKind, added_depth, announced, beginning, beginnings, chunk, element_or_end, item, key_or_end, major_of, open_depth, opened, opening, slot, slot_in, slot_in_map, value}
pub use Rattle.cborn_wire.specs.declared.faults.VisitFault.{VisitFault}
pub use Rattle.cborn_wire.specs.declared.faults.VisitFault.TheVariants.{Memory, Refused}
pub use Rattle.cborn_wire.specs.declared.faults.WireFault.{WireFault}
pub use Rattle.cborn_wire.specs.declared.faults.WireReason.{WireReason}
pub use Rattle.cborn_wire.specs.declared.faults.WireReason.TheVariants.{BadChunk, BadSimple, EndlessNotAllowed, FloatLeftOut, ReservedInfo, TooDeep, Truncated, UnexpectedBreak}
pub use Rattle.cborn_wire.specs.declared.feeders.ItemReader.{ItemReader}
pub use Rattle.cborn_wire.specs.declared.head_readers.HeadReader.{HeadReader}
pub use Rattle.cborn_wire.specs.declared.head_readers.PartialHead.{PartialHead}
pub use Rattle.cborn_wire.specs.declared.heads.Head.{Head}
pub use Rattle.cborn_wire.specs.declared.heads.HeadRead.TheVariants.{Full}
pub use Rattle.cborn_wire.specs.declared.leaves.GivenHead.{GivenHead}
pub use Rattle.cborn_wire.specs.declared.levels.Level.{Level}
pub use Rattle.cborn_wire.specs.declared.levels.LevelKind.{LevelKind}
pub use Rattle.cborn_wire.specs.declared.nodes.Nodes.{Nodes}
pub use Rattle.cborn_wire.specs.declared.spellers.OpenSpelling.{OpenSpelling}
pub use Rattle.cborn_wire.specs.devices.ItemReading.{EndsHeld, IsMade, IsMoved, Took, pending, seen}
pub use Rattle.cborn_wire.specs.devices.Leaves.{AfterLeaves, IsGiven, IsLeaf, IsLeafOf, TakesHead, TakesRun, content_len, leaf_tree}
pub use Rattle.cborn_wire.specs.devices.OpenNodes.{IsHeld, around, seen_nodes, seen_string, within}
pub use Rattle.cborn_wire.specs.devices.ShortIntegers.{IsIntegerForm, top_of}
pub use Rattle.cborn_wire.specs.shared.Ground.{Ground, IsPlacedOpen, place_of}
pub use Rattle.cborn_wire.specs.shared.InitialBytes.{EndlessInformation, Info, Next, Now, Reserved, front_reason, head_reason, info_at, info_for, is_always_bounded, is_bad_chunk, is_break, is_container, is_endless_head, is_float, is_of_kind, is_one, is_other, is_reserved}
pub use Rattle.cborn_wire.specs.shared.Machine.{AtMostOneMore, Failed, Goal, IsReached, Live, State, Stops, Unfinished, after_head, append_trees, argument_of, at_slot, begin_head, content_at, content_of, ended, finished, front, gather, gathered, gathering, held, holding, is_all, is_full, nothing, number, partial_bytes, ready_in, run, snoc, start, step, unless, width_bytes}
pub use Rattle.cborn_wire.specs.shared.Spelling.{IsEnded, IsWritten, container, containers_of, counted, ending_of, entries_in, shape, sized_ending, with_head, written}
pub use Rattle.cborn_wire.specs.shared.Visiting.{AreFromBytes, FailsAs, Gives, Here, HereAt, IsFed, IsFresh, IsInput, IsNoChunkSlot, IsShort, Keeps, MayEnd, Missing, Reads, ReadsItem, RefusesPiece, Stands, Takes, TakesPiece, TakesSome, announced_nodes, at_none, head_at, input_level, is_array, is_at_key, is_chunks, is_even, kind_at_none, kind_in, lessened, level_in, level_with, levels, may_end, next_head, open_in, parts_of, plain, ready, room_in, seen_head, slot_of, state, unfinished, with_kind, with_part}
