-- The names from other crates and from the code that definitions and contracts use, each from where it is defined.
pub use Rattle.std.proofs.Common.{not}
pub use Rattle.std.specs.List.{AllByRecursion, AllZip}
pub use Rattle.std.specs.List.Sorted.{IsSortedBy}
pub use Rattle.std.specs.Ordering.{is_lt, nat_cmp, ordering_then}
pub use Rattle.std.specs.Prelude.{Bool, IfErr, IfOk, IfSome, IsPermutation, IsTrue, IsUtf8, List, None, OnOk, Option, Some, [], drop, false, flat_map, length, map, nat_lt, suc, take, true, zero, ℕ, ⊤}
pub use Rattle.std.specs.declared.cmp.Ordering.{Ordering}
pub use Rattle.std.specs.declared.cmp.Ordering.TheVariants.{Less}
pub use Rattle.cborn_model.specs.Bytes.{AreBytes, IsShortest, big_endian}
pub use Rattle.cborn_model.specs.Earliest.{Finds, IsEarliest}
pub use Rattle.cborn_model.specs.First.{IsFirst}
pub use Rattle.cborn_model.specs.Heads.{IsLeastHead, code, least}
pub use Rattle.cborn_model.specs.ItemView.{item_value}
pub use Rattle.cborn_model.specs.Meaning.{AllMean, ChunksAreText, IsByteString, IsNumber, Means, joined_chunks}
pub use Rattle.cborn_model.specs.Orders.{Rising}
pub use Rattle.cborn_model.specs.Partial.{Ends, IsFree, Opening, Part, Partial, Proper, TakesString, a_map, a_tag, an_array, built, chunks_of, ended_size, in_chunks, inside, last_of, no_part, paired, part, put, string_tree, top}
pub use Rattle.cborn_model.specs.Spelled.{Fits, FitsAll, spelled, spelled_all}
pub use Rattle.cborn_model.specs.Tree.{ByteChunks, Bytes, Entries, Items, Nint, Pairs, Simple, Tagged, Text, TextChunks, Tree, Trees, Uint, count, count_entries, depth, entries, entry, more, no_entry, no_item, place, trees}
pub use Rattle.cborn_model.specs.Valid.{AreProper, IsProper, value_depth}
pub use Rattle.cborn_model.specs.Value.{Same, Value, Values}
pub use Rattle.cborn_model.specs.declared.heads.Major.{Major}
pub use Rattle.cborn_model.specs.declared.heads.Major.TheVariants.{Array, ByteString, Map, Other, Tag, TextString}
pub use Rattle.cborn_model.specs.declared.heads.Size.{Size}
pub use Rattle.cborn_model.specs.declared.heads.Size.TheVariants.{Endless, Fixed}
pub use Rattle.cborn_model.specs.declared.heads.Width.{Width}
pub use Rattle.cborn_model.specs.declared.items.Item.{Item}
pub use Rattle.cborn_model.specs.declared.nodes.Chunk.{Chunk}
pub use Rattle.cborn_model.specs.declared.orders.KnownOrder.{KnownOrder}
pub use Rattle.cborn_model.specs.declared.visitors.StringKind.{StringKind}
pub use Rattle.cborn_model.specs.declared.visitors.StringKind.TheVariants.{OfBytes, OfText}
pub use Rattle.cborn_det.specs.Det.{Det, DetSeq, DetValues, Entry, bignum_tag, joined, keys}
pub use Rattle.cborn_judge.specs.declared.defects.DefectReason.{DefectReason}
pub use Rattle.cborn_judge.specs.declared.defects.DefectReason.TheVariants.{EndlessLength, KeyOrder, LongHead, LooseBignum}
pub use Rattle.cborn_judge.specs.declared.encoders.Encoder.{Encoder}
pub use Rattle.cborn_judge.specs.declared.encoders.Encodings.{Encodings}
pub use Rattle.cborn_judge.specs.declared.encoders.OpenString.{OpenString}
pub use Rattle.cborn_judge.specs.declared.ends.Bignum.{Bignum}
pub use Rattle.cborn_judge.specs.declared.ends.Findings.{Findings}
pub use Rattle.cborn_judge.specs.declared.faults.Invalid.{Invalid}
pub use Rattle.cborn_judge.specs.declared.faults.Invalid.TheVariants.{OutOfMemory, Refused}
pub use Rattle.cborn_judge.specs.declared.faults.InvalidReason.{InvalidReason}
pub use Rattle.cborn_judge.specs.declared.faults.InvalidReason.TheVariants.{BadBignum, DuplicateKey, NotUtf8}
pub use Rattle.cborn_judge.specs.declared.levels.Container.{Container}
pub use Rattle.cborn_judge.specs.declared.levels.Level.{Level}
pub use Rattle.cborn_judge.specs.declared.marks.Mark.{Mark}
pub use Rattle.cborn_judge.specs.declared.marks.NarrowMark.{NarrowMark}
pub use Rattle.cborn_judge.specs.declared.pairs.Marks.{Marks}
pub use Rattle.cborn_judge.specs.declared.pairs.Marks.TheVariants.{Narrow, Wide}
