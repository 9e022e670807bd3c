-- The text strings of what is notated are UTF-8, so its bytes have a notation.
use Rattle.std.specs.Prelude.{◌≡◌, ◌≤◌, ◌∷◌, ◌++◌, ◌&&◌, if◌then◌else◌}
use Rattle.cborn_engine.proofs.Common.{ℕ, List, [], Bool, true, false, length, refl, arith, IsUtf8, is_utf8, Width, Chunk, Tree, Trees, Entries, trees, Profile, EdnReason, IsItem, IsPiece, ArePieces, AreChunks, AreItems, IsContent, ArePairs, IsFields, IsText, number, word, tag, chunked, text_piece, byte_piece, embedded, piece, also, first, next, last, before, empty, tight, loose, last_pair, pair_before, no_fields, tight_fields, loose_fields, nothing, items, IsSpelling, IsUnshown, IsWellformed, most_bytes, utf8_bytes, notated_fits}
use Rattle.cborn_engine.proofs.Answers.{nodes_of, notated_of, spells_of}
use Rattle.cborn_lex.specs.declared.classes.Mark.{Mark}
use Rattle.cborn_lex.specs.declared.classes.Token.{Token}
use Rattle.cborn_model.specs.declared.visitors.StringKind.{StringKind}
use Rattle.cborn_model.specs.declared.visitors.StringKind.TheVariants.{OfBytes, OfText}
use Rattle.cborn_edn.specs.declared.faults.EdnReason.TheVariants.{MixedChunks}
use Rattle.cborn_edn.specs.Says.{unless, mark_errors, string_errors, is_good, same_kind, is_endless, is_small, is_below, argument_of, integer, bignum, width, is_nil, number_node, string_node, chunked_node, said_string, chunk, Str}
use Rattle.cborn_edn.specs.Grammar.{simple, array, map, string}
use Rattle.cborn_edn.specs.shared.Texts.{AreTexts, IsShowable, EachShowable, ArePairsShowable}
use Rattle.cborn_edn.proofs.Shown.Lowests.{are_showable}
use Rattle.cborn_engine.proofs.Held.BadTexts.{good_shows}

-- of two lists that are empty together, each is
nothing_in : {A : Type 0} (a b : List A) → a ++ b ≡ [] → (a ≡ []) × (b ≡ [])
nothing_in [] b e = (refl, e)
nothing_in (x ∷ a) b e = absurd cc

met : (c : Bool) (p : ℕ) (r : EdnReason) → unless c p r ≡ [] → c ≡ true
met c p r h1 = grind (arith, false, true)

both : (a b : Bool) → a ≡ true → b ≡ true → (a && b) ≡ true
both a b h1 h2 = grind (arith, false, true)

either : (c : Bool) (t u : Tree) → IsShowable t → IsShowable u → IsShowable (if c then t else u)
either c t u h1 h2 = grind (arith, false, true)

number_shows : (p : ℕ) (n : Bool) (v : ℕ) (m : Mark) → IsShowable (number_node p n v m)
number_shows p n v m = grind (arith, argument_of, bignum, either, integer, is_below, is_small, width)

-- ---- strings

string_shows : (k : StringKind) (p : ℕ) (w : Width) (x : List ℕ) → is_good k x ≡ true → IsShowable (string_node k p w x)
string_shows OfBytes p w x e = tt
string_shows OfText p w x e = e

empty_shows : (k : StringKind) (p : ℕ) → IsShowable (chunked_node k p [])
empty_shows OfBytes p = tt
empty_shows OfText p = tt

said_shows : (s : Str) → is_good s.kind s.bytes ≡ true → IsShowable (said_string s)
said_shows s e = either (s.lone && is_endless s.mark) (chunked_node s.kind s.place []) _ (empty_shows s.kind s.place) (string_shows s.kind s.place (width s.mark (length s.bytes)) s.bytes e)

string_good : (may_end : Bool) (s : Str) → s.known ≡ true → string_errors may_end s ≡ [] → is_good s.kind s.bytes ≡ true
string_good may_end s h1 h2 = grind (arith, false, is_good, mark_errors, met, nothing_in, true, unless)

nil_known : {A : Type 0} (l : List A) → l ≡ [] → is_nil l ≡ true
nil_known [] e = refl
nil_known (x ∷ l) e = absurd cc

piece_known : {p : Profile} {d : ℕ} {x : List Token} {s : Str} {l : _} → IsPiece p d x s l → l ≡ [] → s.known ≡ true
piece_known h1 h2 = grind (arith, byte_piece, embedded, nil_known, text_piece)

pieces_known : {p : Profile} {d : ℕ} {x : List Token} {s : Str} {l : _} → ArePieces p d x s l → l ≡ [] → s.known ≡ true
pieces_known (piece h) e = piece_known h e
pieces_known (also {l = l} {r = r} h k) e =
    let f = nothing_in l _ e in
    both _ _ (pieces_known h f.0) (piece_known k (nothing_in r _ f.1).0)

text_more : (cs : List Chunk) (c : Chunk) → AreTexts cs → is_utf8 c.bytes ≡ true → AreTexts (cs ++ c ∷ [])
text_more [] c f g = (g, tt)
text_more (d ∷ cs) c f g = (f.0, text_more cs c f.1 g)

text_good : (k : StringKind) (x : List ℕ) → k ≡ OfText → is_good k x ≡ true → is_utf8 x ≡ true
text_good OfText x e g = g
text_good OfBytes x e g = absurd cc

kind_same : (k l : StringKind) → same_kind k l ≡ true → k ≡ OfText → l ≡ OfText
kind_same OfText OfText e f = refl
kind_same OfText OfBytes e f = absurd cc
kind_same OfBytes l e f = absurd cc

chunks_texts : {p : Profile} {d : ℕ} {x : List Token} {k : StringKind} {cs : List Chunk} {l : _} → AreChunks p d x k cs l → l ≡ [] → k ≡ OfText → AreTexts cs
chunks_texts (first {s = s} {l = l} h) e t =
    let f = nothing_in l _ e in
    (text_good s.kind s.bytes t (string_good false s (pieces_known h f.0) f.1), tt)
chunks_texts (next {k = k} {cs = cs} {s = s} {l = l} {r = r} a h g) e t =
    let f = nothing_in l _ e in
    let j = nothing_in r _ f.1 in
    let c = nothing_in (unless (same_kind k s.kind) s.place MixedChunks) _ j.1 in
    text_more cs (chunk s) (chunks_texts h f.0 t) (text_good s.kind s.bytes (kind_same k s.kind (met _ s.place MixedChunks c.0) t) (string_good false s (pieces_known g j.0) c.1))

chunked_shows : (k : StringKind) (p : ℕ) (cs : List Chunk) → (k ≡ OfText → AreTexts cs) → IsShowable (chunked_node k p cs)
chunked_shows OfBytes p cs h = tt
chunked_shows OfText p cs h = h refl

-- ---- items

mutual
  item_shows : {p : Profile} {d : ℕ} {x : List Token} {t : Tree} {l : _} → IsItem p d x t l → l ≡ [] → IsShowable t
  item_shows (number {v = v} {n = n} {m = m} a low) e = number_shows a.start n v m
  item_shows (word a) e = tt
  item_shows (simple a b c low) e = tt
  item_shows (tag a b h) e = item_shows h (nothing_in _ _ e).1
  item_shows (array {l = l} a b h) e = content_shows h (nothing_in l _ e).0
  item_shows (map {l = l} a b h) e = fields_show h (nothing_in l _ e).0
  item_shows (string {s = s} {l = l} h) e = let f = nothing_in l _ e in said_shows s (string_good s.lone s (pieces_known h f.0) f.1)
  item_shows (chunked {k = k} {cs = cs} a b h) e = chunked_shows k a.start cs (chunks_texts h e)

  items_show : {p : Profile} {d : ℕ} {x : List Token} {ts : Trees} {l : _} → AreItems p d x ts l → l ≡ [] → EachShowable ts
  items_show (last h) e = (item_shows h e, tt)
  items_show (before {l = l} a h k) e = let f = nothing_in l _ e in (item_shows h f.0, items_show k f.1)

  content_shows : {p : Profile} {d : ℕ} {x : List Token} {ts : Trees} {l : _} → IsContent p d x ts l → l ≡ [] → EachShowable ts
  content_shows empty e = tt
  content_shows (tight h) e = items_show h e
  content_shows (loose a q h) e = items_show h e

  pairs_show : {p : Profile} {d : ℕ} {x : List Token} {es : Entries} {l : _} → ArePairs p d x es l → l ≡ [] → ArePairsShowable es
  pairs_show (last_pair {l = l} a h k) e = let f = nothing_in l _ e in (item_shows h f.0, item_shows k f.1, tt)
  pairs_show (pair_before {l = l} {r = r} a c h k q) e =
      let f = nothing_in l _ e in
      let g = nothing_in r _ f.1 in
      (item_shows h f.0, item_shows k g.0, pairs_show q g.1)

  fields_show : {p : Profile} {d : ℕ} {x : List Token} {es : Entries} {l : _} → IsFields p d x es l → l ≡ [] → ArePairsShowable es
  fields_show no_fields e = tt
  fields_show (tight_fields h) e = pairs_show h e
  fields_show (loose_fields a q h) e = pairs_show h e

text_shows : {p : Profile} {d : ℕ} {x : List Token} {ts : Trees} {l : _} → IsText p d x ts l → l ≡ [] → EachShowable ts
text_shows h1 h2 = grind (arith, items, items_show, nothing)

-- the bytes that a text notates have a notation
pub spelled_shows : (p : Profile) (limit : ℕ) (text bytes : List ℕ) → length text ≤ most_bytes → IsUtf8 text → IsSpelling p limit text bytes → (q : ℕ) → IsUnshown limit bytes q → ⊥
spelled_shows p limit text bytes within u s q =
    let f = notated_fits p limit text (trees (nodes_of s)) (utf8_bytes text u) (omega (arith, within)) (notated_of s) in
    good_shows limit limit bytes (trees (nodes_of s)) q (record { spells = (spells_of s); fit = f.0; shallow = f.1 }) (are_showable (trees (nodes_of s)) (text_shows (notated_of s).2 refl))

-- and they are well-formed
pub spelled_read : (p : Profile) (limit : ℕ) (text bytes : List ℕ) → length text ≤ most_bytes → IsUtf8 text → IsSpelling p limit text bytes → IsWellformed limit bytes
spelled_read p limit text bytes within u s =
    let f = notated_fits p limit text (trees (nodes_of s)) (utf8_bytes text u) (omega (arith, within)) (notated_of s) in
    (trees (nodes_of s), record { spells = (spells_of s); fit = f.0; shallow = f.1 })
