-- Strings that end, and their chunks.
use Rattle.std.specs.Prelude.{◌≡◌, ◌^◌, ◌<◌, ◌++◌}
use Rattle.cborn_edn.proofs.Common.{sym, ap, ◌∙◌, ℕ, List, [], length, Bool, true, false, arith, append_assoc, map-append, Width, Chunk, StringKind, OfText, WidthFits, least, Partial, put, IsFree, TakesString, string_tree, chunks_tree, String, Close, Joint, width, same_kind, Str, said_string, chunk, chunked_node, string_node, mark_errors, chunk_errors, Span, Pieces, string, chunked, Strings, strings, StringsBefore, no_string, after_strings, depth_of_pieces, Stack, as_item, as_chunk, wants, has, builds, wants_chunk, str, kind_in, faults_of_pieces, faults_of_strings, noted, noted_stack, pieces_bytes, joint, kind_before, Comes, front_of, Hands, string_event, chunk_event, ProfileTwo as Two, strings_held, EventFits as Fits}
use Rattle.cborn_model.specs.shared.Walks.{string_of}
use Rattle.cborn_edn.specs.devices.Events.{after}
use Rattle.cborn_edn.proofs.Short.Derived.{derived_pieces}
use Rattle.cborn_edn.proofs.Meaning.NoError.{no_left, no_right, known_pieces, mark_fits}
use Rattle.cborn_edn.proofs.Reader.Showing.{known_bytes}
use Rattle.cborn_edn.proofs.Reader.Settling.{text_item, text_node}
use Rattle.cborn_edn.proofs.HandedOver.Handing.{free}
use Rattle.cborn_edn.proofs.HandedOver.Closings.{hands_close}

known_here : (ps : Pieces) → faults_of_pieces ps ≡ [] → (str ps).known ≡ true
known_here ps = known_pieces (derived_pieces Two ps (depth_of_pieces ps) (omega arith) tt)

node_of : (k : StringKind) (p : ℕ) (cs : List Chunk) → chunks_tree p k cs ≡ chunked_node k p cs
node_of k p cs = grind arith

same_is : (k l : StringKind) → same_kind k l ≡ true → k ≡ l
same_is k l h1 = grind arith

none_both : {A : Type 0} (x y : List A) → x ≡ [] → y ≡ [] → x ++ y ≡ []
none_both x y h1 h2 = grind arith

takes : (f : Partial) (k : StringKind) → IsFree f → TakesString f k
takes f k h1 = grind arith

string_is : (k : StringKind) (p : ℕ) (w : Width) (x : List ℕ) → string_tree p k w x ≡ string_node k p w x
string_is k p w x = grind arith

-- the event of a whole string makes its node
abbrev Makes : Partial → Str → Joint → List ℕ → Type 0
Makes f s j x = Comes (string_event j (length x)) f × (after (string_event j (length x)) j.place x f ≡ put f (said_string s))

makes : (f : Partial) (s : Str) → IsFree f → Makes f s (joint s) s.bytes
makes f s h1 = grind arith

-- of a string of these pieces with this content
module _ (ps : Pieces) {j : Joint} {x : List ℕ} (is : j ≡ joint (str ps)) (same : x ≡ pieces_bytes ps) where
  -- the content is what is meant
  meant : faults_of_pieces ps ≡ [] → x ≡ (str ps).bytes
  meant none = same ∙ known_bytes ps (known_here ps none)

  pub hands_string : (st : Stack) → Hands (string_event j (length x)) j.place x (builds (as_item st) ps) (has st (string ps))
  hands_string st = grind (arith, append_assoc, faults_of_pieces, free, front_of, joint, makes, meant, no_left, no_right, noted_stack, str)

  wide : (may_end : Bool) → faults_of_pieces ps ≡ [] → mark_errors may_end (str ps) ≡ [] → length x < 2 ^ 64 → WidthFits (width j.mark (length x)) (length x)
  wide may_end h1 h2 h3 = grind (arith, known_here, length, mark_fits, meant, str, width)

  pub string_fits : (st : Stack) → noted (has st (string ps)) ≡ [] → length x < 2 ^ 64 → Fits (string_event j (length x)) x
  string_fits st h1 h2 = grind (arith, no_left, no_right, wide)

  chunk_is : faults_of_pieces ps ≡ [] → string_tree j.place j.kind (width j.mark (length x)) x ≡ string_of (str ps).kind (chunk (str ps))
  chunk_is none = let content = meant none in λ i. string_tree (is i).place (is i).kind (width (is i).mark (length (content i))) (content i)

  module _ (st : Stack) (s a : Span) where
    pub hands_chunk : (b : StringsBefore) → Hands (chunk_event (record { place = s.start; kind = kind_before b }) j (length x)) j.place x (builds (as_chunk st s b) ps) (wants_chunk st s (after_strings (strings b ps) a))
    hands_chunk b = grind (arith, chunk_is, free, map-append, no_left, no_right, none_both, same_is, strings_held)

    pub chunk_fits : (b : StringsBefore) → noted (wants_chunk st s (after_strings (strings b ps) a)) ≡ [] → length x < 2 ^ 64 → Fits (chunk_event (record { place = s.start; kind = kind_before b }) j (length x)) x
    chunk_fits no_string q small = let own = no_right (noted_stack st) _ q in wide false (no_left _ _ own) (no_left _ _ (no_right (faults_of_pieces ps) _ own)) small
    chunk_fits (after_strings ss c) q small =
        let own = no_right (faults_of_strings ss) (faults_of_pieces ps ++ chunk_errors (kind_in ss) (str ps)) (no_right (noted_stack st) _ q) in
        wide false (no_left _ _ own) (no_left (mark_errors false (str ps)) _ (no_right _ _ (no_right (faults_of_pieces ps) _ own))) small

pub hands_chunks_end : (st : Stack) (s a e : Span) (ss : Strings) → Hands Close 0 [] (wants_chunk st s (after_strings ss a)) (has st (chunked s ss e))
hands_chunks_end st s a e ss = grind (arith, free, hands_close, node_of, strings_held)

pub hands_text : (st : Stack) (a : Span) (x : List ℕ) (place : ℕ) (w : Width) → place ≡ a.start → w ≡ least (length x) → Hands (String OfText w) place x (wants st) (has st (text_item a x))
hands_text st a x place w p e q = (no_left _ _ q, ((free st).0, takes (front_of st) OfText (free st)), (λ i. put (front_of st) (string_tree (p i) OfText (e i) x)) ∙ ap (put (front_of st)) (sym (text_node a x)))
