-- What is encoded of what an input holds is canonical.
use Rattle.std.specs.Prelude.{◌≡◌, ◌≤◌, ◌↔◌}
use Rattle.cborn_engine.proofs.Common.{arith, ℕ, List, length, refl, sym, ◌∙◌, subst, Ordering, AllZip, AllByRecursion, Value, Same, Tree, trees, depth_all, Wellformed, FitsAll, IsProper, IsKeyOrder, DetSeq, Kind, Spells, Holds, Canon, IsWrittenAs, IsEncoded, IsCanonical, most_bytes, seq_of_one, one_of_seq, seq_exists, Profile}
use Rattle.cborn_engine.proofs.Held.Notated.{fits}
use Rattle.cborn_engine.proofs.Canonical.Proper.{sequence_proper, sequence_shallow}
use Rattle.cborn_engine.proofs.Held.Meant.{holds_once, all_same, all_turned, AreSound}
use Rattle.cborn_engine.proofs.Canonical.FixedText.{text_once, bytes_once, text_back}
use Rattle.cborn_engine.proofs.Canonical.PlainText.{as_plain, as_fixed}
use Rattle.cborn_engine.proofs.Held.ReadsBack.{SequenceReadsBack, sequence_back}

module _ (order : List ℕ → List ℕ → Ordering) (laws : IsKeyOrder order) where
  -- items that are the same as encoded ones have that encoding
  pub same_encoded : (vs ws : List Value) (w : List ℕ) → AllByRecursion IsProper vs → AllByRecursion IsProper ws → DetSeq order vs w → AllZip Same vs ws → DetSeq order ws w
  same_encoded vs ws w h1 h2 h3 h4 = grind (arith, one_of_seq, seq_exists)

-- ---- what is encoded, as an output of a kind

pub canon_of : (order : List ℕ → List ℕ → Ordering) (out : Kind) (vs : List Value) (x w : List ℕ) → DetSeq order vs x → IsWrittenAs out x w → Canon order out vs w
canon_of order out vs x w h1 h2 = grind (arith, as_plain)

canon_is : (order : List ℕ → List ℕ → Ordering) (out : Kind) (vs : List Value) (w : List ℕ) → Canon order out vs w → (x : List ℕ) × DetSeq order vs x × IsWrittenAs out x w
canon_is order Kind.Wire vs w d = (w, d, refl)
canon_is order _ vs w c = (c.0, c.1, as_fixed order vs c.0 w c.1 c.2)

output_once : (out : Kind) (x v w : List ℕ) → IsWrittenAs out x v → IsWrittenAs out x w → v ≡ w
output_once out x v w h1 h2 = grind (arith, text_once)

encoding_once : (out : Kind) (x y w : List ℕ) → IsWrittenAs out x w → IsWrittenAs out y w → x ≡ y
encoding_once out x y w h1 h2 = grind (arith, bytes_once)

-- valid items have one canonical form
one_form : (order : List ℕ → List ℕ → Ordering) (laws : IsKeyOrder order) (out : Kind) (vs : List Value) (v w : List ℕ) → AllByRecursion IsProper vs → Canon order out vs v → Canon order out vs w → v ≡ w
one_form order laws out vs v w h1 h2 h3 = grind (arith, all_same, canon_is, one_of_seq, output_once)

-- the output holds what its bytes do
holds_back : (out : Kind) (limit : ℕ) (vs : List Value) (x w : List ℕ) (back : SequenceReadsBack limit 0 vs x) → IsWrittenAs out x w → Holds out limit w back.items
holds_back Kind.Wire limit vs x w back e =
    let spelled : Wellformed limit (trees back.nodes) w = record { spells = back.spells ∙ sym e; fit = back.fits; shallow = back.shallow } in
    record { nodes = back.nodes; spelled = spelled; meant = back.mean }
holds_back Kind.Notation limit vs x w back e =
    let t = text_back Profile.One limit x w back.nodes back.items back.fits back.shallow back.spells back.mean e in record { nodes = t.nodes; spelled = t.notated; meant = t.mean }
holds_back Kind.Notation2 limit vs x w back e =
    let t = text_back Profile.Two limit x w back.nodes back.items back.fits back.shallow back.spells back.mean e in record { nodes = t.nodes; spelled = t.notated; meant = t.mean }

-- ---- what was read is sound

pub spelled_fits : (k : Kind) (limit : ℕ) (input : List ℕ) (ns : List Tree) → length input ≤ most_bytes → Spells k limit input ns → FitsAll (trees ns) × (depth_all (trees ns) ≤ limit)
spelled_fits Kind.Wire limit input ns l h = (h.fit, h.shallow)
spelled_fits Kind.Notation limit input ns l h = fits Profile.One limit input ns h l
spelled_fits Kind.Notation2 limit input ns l h = fits Profile.Two limit input ns h l

held_sound : (order : List ℕ → List ℕ → Ordering) (k : Kind) (limit : ℕ) (input : List ℕ) (vs : List Value) (x : List ℕ) → length input ≤ most_bytes → Holds k limit input vs → DetSeq order vs x → AreSound limit vs
held_sound order k limit input vs x h1 h2 h3 = grind (arith, sequence_proper, sequence_shallow, spelled_fits)

-- ---- what follows for the canonical form of what an input holds

module _ (order : List ℕ → List ℕ → Ordering) (laws : IsKeyOrder order) (k out : Kind) (limit : ℕ) (x w : List ℕ) (short : length x ≤ most_bytes) (c : IsCanonical order k out limit x w) where
  -- the encoding that the output is, or is the notation of
  encoded : (e : List ℕ) × DetSeq order c.items e × IsWrittenAs out e w
  encoded = canon_is order out c.items w c.written

  sound : AreSound limit c.items
  sound = held_sound order k limit x c.items encoded.0 short c.held encoded.1

  back : SequenceReadsBack limit 0 c.items encoded.0
  back = sequence_back order laws limit 0 c.items encoded.0 sound.proper sound.shallow encoded.1

  held_again : Holds out limit w back.items
  held_again = holds_back out limit c.items encoded.0 w back encoded.2

  pub valid : AllByRecursion IsProper c.items
  valid = sound.proper

  pub reads_back : (others : List Value) × Holds out limit w others × AllZip Same others c.items
  reads_back = (back.items, held_again, back.same)

  pub alone : (v : List ℕ) → Canon order out c.items v → v ≡ w
  alone v d = one_form order laws out c.items v w valid d c.written

  pub one_for_same : (others : List Value) → AllByRecursion IsProper others → Canon order out others w ↔ AllZip Same c.items others
  one_for_same others h1 = grind (arith, canon_is, canon_of, encoded, encoding_once, same_encoded, seq_of_one, valid)

  pub settled : (others : List Value) → Holds out limit w others → Canon order out others w
  settled others other =
      let same = same_encoded order laws c.items back.items encoded.0 valid back.proper encoded.1 (all_turned back.items c.items back.same) in
      subst (λ (us : List Value). Canon order out us w) (holds_once out limit w back.items others held_again other) (canon_of order out back.items encoded.0 w same encoded.2)

  -- the output is its own canonical form
  pub own_form : IsCanonical order out out limit w w
  own_form = record { items = back.items; held = held_again; written = settled back.items held_again }

  -- the canonical form of the output is the output
  pub again : (v : List ℕ) → IsCanonical order out out limit w v → v ≡ w
  again v b =
      let proper = subst (AllByRecursion IsProper) (holds_once out limit w back.items b.items held_again b.held) back.proper in
      one_form order laws out b.items v w proper b.written (settled b.items b.held)

-- ---- what was encoded

-- the bytes hold items of which they are the encodings, the same as these
pub record OwnEncoding (order : List ℕ → List ℕ → Ordering) (limit : ℕ) (bytes : List ℕ) (items : List Value) : Type 0 where
  pub own : IsEncoded order Kind.Wire limit bytes bytes
  pub same : AllZip Same own.items items

-- what was encoded of an input is its own encoding
pub own_bytes : (order : List ℕ → List ℕ → Ordering) (laws : IsKeyOrder order) (k : Kind) (limit : ℕ) (input bytes : List ℕ) → length input ≤ most_bytes → (e : IsEncoded order k limit input bytes) → OwnEncoding order limit bytes e.items
own_bytes order laws k limit input bytes short e =
    let sound : AreSound limit e.items = held_sound order k limit input e.items bytes short e.held e.encoded in
    let back = sequence_back order laws limit 0 e.items bytes sound.proper sound.shallow e.encoded in
    record {
      own = record {
        items = back.items;
        held = holds_back Kind.Wire limit e.items bytes bytes back refl;
        encoded = same_encoded order laws e.items back.items bytes sound.proper back.proper e.encoded (all_turned back.items e.items back.same);
      };
      same = back.same;
    }
