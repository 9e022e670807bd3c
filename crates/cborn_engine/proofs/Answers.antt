-- What the calls answer: for an input that is refused, that holds items, or that was not read to its end.
pub mod Spots
use Rattle.std.specs.Prelude.{◌≡◌, ◌⊎◌, ◌<◌, ◌^◌, ◌≤◌, ◌*◌, ◌↔◌}
use Rattle.cborn_engine.proofs.Common.{ℕ, List, [], append-nil, refl, sym, Option, Some, None, Appends, Consumes, Result, Ok, Err, subst, ap, IsErrAnd, Kind, ◌∙◌, Tree, trees, spelled_all, Profile, Notates, IsSpelling, tree_list, trees-tree_list, inl, inr, WireReason, Fault, IsWellformed, EngineFault, kind_of, IsRefusedHeld, IsWireFault, IsNoFlaw, Spells, HasNoFault, not_both, IsUtf8, EdnFault, IsNoNotation, of_edn, LexFault, Trees, Wellformed, PlacedAll, IsShownText, IsFixedText, IsUnshownHeld, IsRefusedWhole, IsUnshownWhole, IsShown, length, Ordering, AllZip, Means, IsKeyOrder, Value, values_of, DetValues, IsFirstOfSequence, SequenceDefect, FindsDefect, Holds, Verdict, seq_of_values, values_of_seq, Defect as Found, all_mean, are_proper, Vec, Global, arith, IfOk, IfErr, Defect, SpellsInPlace, LoadAnswers, IsRefused, InputFault, Collects, CollectAnswers, of_input, IsRead, Reads, read_failures, IsEncoded, AreJudged, CheckAnswers, most_bytes, Bool, true, false, not, cow_slice_items, CowSlice, MatchOption, is_some, cases_lt, own_or, IsWrittenAs, sequence_room, IsTrue, FitsAll, InvalidReason, IsRefusalOfAll, IsNotation, IsSpelledAs, Invalid, first_refusal, utf8_bytes, same_notation, notated_fits}
use Rattle.cborn_judge.specs.declared.defects.DefectReason.{DefectReason}
use Rattle.cborn_judge.specs.shared.Checked.{DefectInAll}
use Rattle.cborn_judge.proofs.Encoded.Checking.{check_sequence_sound, check_sequence_whole}
use Rattle.cborn_judge.proofs.FirstDefect.{alike}
use Rattle.cborn_model.specs.First.{IsFirst}
use Rattle.cborn_judge.specs.Reasons.{flaw_rank}
use Rattle.cborn_judge.specs.shared.Judged.{FlawIn}
use Rattle.cborn_judge.specs.devices.Encoding.{AreEncodedAs}
use Rattle.cborn_edn.proofs.Started.{spots_rise}
use Rattle.cborn_engine.proofs.Held.Meant.{held_is_sound, AreSound}
use Rattle.cborn_engine.proofs.Canonical.Canonicity.{own_bytes}
use Rattle.cborn_engine.proofs.Answers.Spots.{rising_apart}
use Rattle.cborn_engine.proofs.Held.SameNodes.{same_nodes}

-- ---- nothing was written, or read

pub nothing_written : (s : Option (List ℕ)) → Appends s s []
nothing_written None = tt
nothing_written (Some xs) = sym (append-nil xs)

pub nothing_read : (s : Option (List ℕ)) → Consumes s s []
nothing_read None = tt
nothing_read (Some xs) = refl

-- ---- what `?` answers, and what an output is that isn't bytes

-- an error that is known
pub known_error : {A E : Type 0} (P : Result A E → Type 0) (why : E) (r : Result A E) → IsErrAnd r (λ e. e ≡ why) → P (Err why) → P r
known_error P why (Ok a) h p = absurd h
known_error P why (Err e) h p = subst P (sym (ap Err h)) p

-- notation of one of the two kinds
pub notation : (out : Kind) → (out ≡ Kind.Wire → ⊥) → (P : Kind → Type 0) → P Kind.Notation → P Kind.Notation2 → P out
notation Kind.Wire never P p q = absurd (never refl)
notation Kind.Notation never P p q = p
notation Kind.Notation2 never P p q = q

-- ---- a text whose bytes were read notates nodes, in a list

abbrev pub nodes_of : {p : Profile} {limit : ℕ} {text bytes : List ℕ} → IsSpelling p limit text bytes → List Tree
nodes_of s = tree_list s.nodes

pub notated_of : {p : Profile} {limit : ℕ} {text bytes : List ℕ} (s : IsSpelling p limit text bytes) → Notates p limit text (trees (nodes_of s))
notated_of {p} {limit} {text} s = subst (Notates p limit text) (sym (trees-tree_list s.nodes)) s.notated

pub spells_of : {p : Profile} {limit : ℕ} {text bytes : List ℕ} (s : IsSpelling p limit text bytes) → spelled_all (trees (nodes_of s)) ≡ bytes
spells_of s = ap spelled_all (trees-tree_list s.nodes) ∙ s.spells

-- ---- bytes that aren't well-formed are refused for their one fault

-- bytes with a fault aren't well-formed
pub no_reading : (limit : ℕ) (input : List ℕ) → (p : ℕ) × (r : WireReason) × Fault limit input p r → IsWellformed limit input → ⊥
no_reading limit input f w = not_both limit input f.0 f.1 w f.2

-- what spells nodes has no fault
pub unfaulted : (k : Kind) (limit : ℕ) (input : List ℕ) (nodes : List Tree) → Spells k limit input nodes → HasNoFault k limit input
unfaulted Kind.Wire limit input nodes s = record { none = λ p r e f. not_both limit input p r (trees nodes, s) f }
unfaulted _ limit input nodes s = record { none = λ p r e f. absurd cc }

-- nor has a text
pub no_fault : (p : Profile) (limit : ℕ) (input : List ℕ) → HasNoFault (kind_of p) limit input
no_fault Profile.One limit input = record { none = λ p r e f. absurd cc }
no_fault Profile.Two limit input = record { none = λ p r e f. absurd cc }

pub wire_refused : (limit : ℕ) (input : List ℕ) (why : EngineFault) → IsWireFault limit input why → IsRefusedHeld Kind.Wire limit input why × IsNoFlaw why
wire_refused limit input why f = subst (λ (e : EngineFault). IsRefusedHeld Kind.Wire limit input e × IsNoFlaw e) (sym f.2) ((λ most l. (l, f.3)), tt)

-- where a growth was refused
pub refusal_refused : (limit : ℕ) (input : List ℕ) (why : EngineFault) → IsWireFault limit input why ⊎ IsWellformed limit input × (why ≡ EngineFault.OutOfMemory) → IsRefusedHeld Kind.Wire limit input why × IsNoFlaw why
refusal_refused limit input why (inl f) = wire_refused limit input why f
refusal_refused limit input why (inr f) =
    subst (λ (e : EngineFault). IsRefusedHeld Kind.Wire limit input e × IsNoFlaw e) (sym f.1) ((λ most l. (l, record { none = λ p r e g. not_both limit input p r f.0 g })), tt)

-- ---- why a text that is held whole is refused

-- it has no tokens, no tree or no meaning
pub untold : (p : Profile) (limit : ℕ) (input text : List ℕ) (why : EdnFault) → text ≡ input → IsUtf8 input → IsNoNotation p limit text why → IsRefusedHeld (kind_of p) limit input (of_edn why) × IsNoFlaw (of_edn why)
untold p limit input text why e u r = go p why (subst (λ (x : List ℕ). IsNoNotation p limit x why) e r)
  where
    go : (p : Profile) (why : EdnFault) → IsNoNotation p limit input why → IsRefusedHeld (kind_of p) limit input (of_edn why) × IsNoFlaw (of_edn why)
    go Profile.One (EdnFault.Lex (LexFault.Refused q s)) k = ((λ most l. (l, (u, k))), tt)
    go Profile.Two (EdnFault.Lex (LexFault.Refused q s)) k = ((λ most l. (l, (u, k))), tt)
    go Profile.One (EdnFault.Refused q s) k = ((λ most l. (l, (u, k))), tt)
    go Profile.Two (EdnFault.Refused q s) k = ((λ most l. (l, (u, k))), tt)
    go p (EdnFault.Lex LexFault.OutOfMemory) k = ((λ most l. (l, no_fault p limit input)), tt)
    go p EdnFault.OutOfMemory k = ((λ most l. (l, no_fault p limit input)), tt)

-- ---- what is answered where an input is written in another form

-- a refusal is answered as it is
pub refused : (k out : Kind) (limit : ℕ) (input : List ℕ) (why : EngineFault) → IsRefusedHeld k limit input why × IsNoFlaw why → IsUnshownHeld k out limit input why
refused k out limit input why r most l = go why (r.0 most l, r.1)
  where
    go : (why : EngineFault) → IsRefusedWhole k limit most input why × IsNoFlaw why → IsUnshownWhole k out limit most input why
    go (EngineFault.Show w) h = absurd h.0
    go _ h = h

pub as_fixed : (limit : ℕ) (input text : List ℕ) → IsShownText limit input text → IsFixedText input text
as_fixed limit input text s = record { nodes = s.nodes; fit = s.read.fit; spelled = s.read.spells; shown = s.shown }

-- well-formed bytes are what their nodes spell
pub own_spelling : (limit : ℕ) (input : List ℕ) → (ts : Trees) × Wellformed limit ts input × PlacedAll 0 ts → IsShown Kind.Wire Kind.Wire limit input input
own_spelling limit input (ts, w, p) =
    let same : trees (tree_list ts) ≡ ts = trees-tree_list ts in
    record {
      nodes = tree_list ts;
      spelled = subst (λ (us : Trees). Wellformed limit us input) (sym same) w;
      shown = sym (ap spelled_all same ∙ w.spells);
    }

-- ---- the first defect of the nodes of an input is the verdict on the input

module _ (order : List ℕ → List ℕ → Ordering) where
  -- of nodes that mean items
  pub found_in_sequence : (nodes : List Tree) (items : List Value) (d : Option Found) → AllZip Means nodes items → FindsDefect (DefectInAll order (trees nodes)) d → FindsDefect (SequenceDefect order (trees nodes)) d
  found_in_sequence nodes items d m h =
      alike (DefectInAll order (trees nodes)) (SequenceDefect order (trees nodes)) d (λ p r. ((λ f. (values_of items, all_mean nodes items m, f.0, f.1, f.2)), (λ f. (f.2, f.3, f.4)))) h

module _ (order : List ℕ → List ℕ → Ordering) (laws : IsKeyOrder order) (limit : ℕ) (input : List ℕ) (items : List Value) (held : Holds Kind.Wire limit input items) where
  pub with_defect : (d : Found) → length input < 2 ^ 64 → PlacedAll 0 (trees held.nodes) → IsFirstOfSequence order (trees held.nodes) d.place d.reason → Verdict order limit input items held (Some d)
  with_defect d l placed first =
      let sound : AreSound limit items = held_is_sound limit input items l held in (
        λ c. check_sequence_whole order laws (trees held.nodes) (values_of items) held.spelled.fit (are_proper items sound.proper) (all_mean held.nodes items held.meant)
            (subst (DetValues order (values_of items)) (sym held.spelled.spells) (values_of_seq order items input c)) d.place d.reason first.is,
        placed,
        first,
      )

  pub without_defect : ((p : ℕ) (r : DefectReason) → SequenceDefect order (trees held.nodes) p r → ⊥) → Verdict order limit input items held None
  without_defect none =
      let all = check_sequence_sound order laws (trees held.nodes) (values_of items) held.spelled.fit (all_mean held.nodes items held.meant) none in
      seq_of_values order items input (subst (DetValues order (values_of items)) held.spelled.spells all)

-- ---- what was read

-- the reader stopped
stopped : (k : Kind) (limit most : ℕ) (x : List ℕ) (after : Option (List ℕ)) (why : InputFault) → CollectAnswers most x after (Err why) → IsRefused k limit most x (of_input why) × IsNoFlaw (of_input why)
stopped k limit most x after InputFault.TooLong h = (h, tt)
stopped k limit most x after _ h = (h, tt)

module _ {A E : Type 0} (name : EngineFault → E) (Answers : List ℕ → Result A E → Type 0) (most : ℕ) (before after : Option (List ℕ)) where
  pub unread : (k : Kind) (limit : ℕ) (why : InputFault) → ((x : List ℕ) → IsRefused k limit most x (of_input why) × IsNoFlaw (of_input why) → Answers x (Err (name (of_input why)))) → Collects most before after (Err why) → Reads name Answers before after (Err (name (of_input why)))
  unread k limit why f h = record { input = h.input; taken = h.taken; answer = f h.input (stopped k limit most h.input after why h.answer); to_end = inr (ended why) }
    where
      ended : (why : InputFault) → (name (of_input why) ≡ name EngineFault.ReadFault) ⊎ (name (of_input why) ≡ name EngineFault.TooLong) ⊎ (name (of_input why) ≡ name EngineFault.OutOfMemory)
      ended InputFault.ReadFault = inl refl
      ended InputFault.TooLong = inr (inl refl)
      ended InputFault.OutOfMemory = inr (inr refl)

  -- it was read to its end
  pub read_whole : (bytes : Vec ℕ Global) (now : List ℕ) → Collects most before after (Ok bytes) → now ≡ bytes.items → (r : Result A E) → (length now ≤ most → Answers now r) → Reads name Answers before after r
  read_whole bytes now h e r f =
      let same : now ≡ h.input = e ∙ h.answer.0 in
      let within : length now ≤ most = subst (λ (x : List ℕ). length x ≤ most) (sym same) h.answer.1 in
      record { input = h.input; taken = h.taken; answer = subst (λ (x : List ℕ). Answers x r) same (f within); to_end = at_end r }
    where
      at_end : (r : Result A E) → IsRead name r after
      at_end (Ok a) = h.answer.2
      at_end (Err why) = inl h.answer.2

-- what is held is refused as what is read
pub read_refused : (k : Kind) (limit most : ℕ) (x : List ℕ) (why : EngineFault) → length x ≤ most → IsRefusedWhole k limit most x why → IsRefused k limit most x why
read_refused k limit most x EngineFault.TooLong l h = absurd (omega (arith, l, h))
read_refused k limit most x EngineFault.ReadFault l h = absurd h
read_refused k limit most x EngineFault.OutOfMemory l h = h.0
read_refused k limit most x _ l h = h

pub loaded : (k : Kind) (limit most : ℕ) (now : List ℕ) (r : Result (Vec Tree Global) EngineFault) → IfOk r (λ nodes. SpellsInPlace k limit now nodes.items) → IfErr r (λ why. IsRefusedHeld k limit now why × IsNoFlaw why) → length now ≤ most → LoadAnswers k limit most now r
loaded k limit most now (Ok nodes) good bad l = (l, good)
loaded k limit most now (Err why) good bad l = (read_refused k limit most now why l (bad.0 most l), bad.1)

-- and no reader fails
pub still : {A : Type 0} (k : Kind) (limit : ℕ) (now : List ℕ) (n : ℕ) (r : Result A EngineFault) → IfErr r (λ why. IsRefusedHeld k limit now why × IsNoFlaw why) → read_failures r n ≡ n
still k limit now n (Err EngineFault.ReadFault) h = absurd (h.0 (length now) (omega arith))
still k limit now n _ h = refl

pub judged : (order : List ℕ → List ℕ → Ordering) (limit : ℕ) (input bytes : List ℕ) (d : Option Defect) → AreJudged order limit input bytes d → IsEncoded order Kind.Wire limit input bytes
judged order limit input bytes d j = record { items = j.items; held = record { nodes = j.nodes; spelled = j.read; meant = j.meant }; encoded = j.encoded }

module _ (limit most : ℕ) (input : List ℕ) (within : length input ≤ most) where
  pub deterministic : (order : List ℕ → List ℕ → Ordering) → IsEncoded order Kind.Wire limit input input → CheckAnswers order limit most input (Ok None)
  deterministic order n = (within, record { items = n.items; held = n.held; verdict = n.encoded })

  pub checked : (order : List ℕ → List ℕ → Ordering) → IsKeyOrder order → most ≤ most_bytes → (bytes : List ℕ) (d : Option Defect) → AreJudged order limit input bytes d → CheckAnswers order limit most input (Ok d)
  checked order laws bounded bytes d j = (within, record { items = j.items; held = held; verdict = verdict d j.found })
    where
      held : Holds Kind.Wire limit input j.items
      held = record { nodes = j.nodes; spelled = j.read; meant = j.meant }

      verdict : (o : Option Defect) → FindsDefect (SequenceDefect order (trees j.nodes)) o → Verdict order limit input j.items held o
      verdict None none = without_defect order laws limit input j.items held none
      verdict (Some x) first = with_defect order laws limit input j.items held x (omega (arith, within, bounded)) j.placed first

-- ---- the length of what is held

pub short : (most : ℕ) (input : List ℕ) (b : Bool) → (IsTrue b ↔ most < length input) → b ≡ false → length input ≤ most
short most input b e f = elim (cases_lt most (length input)) [ inl l ↦ absurd (let t : b ≡ true = e.1 l in cc) | inr l ↦ l ]

-- what follows from a search that finds nothing
pub none_found : {A : Type 0} (o : Option A) (b : Bool) (P : Type 0) (Q : A → Type 0) → is_some o ≡ not b → IsTrue b → MatchOption o P Q → P
none_found None b P Q e t h = h
none_found (Some x) b P Q e t h = absurd (let f : not b ≡ false = ap not t in cc)

-- and one that finds something
pub some_found : {A : Type 0} (o : Option A) (b : Bool) (P : Type 0) (Q : A → Type 0) → is_some o ≡ not b → b ≡ false → MatchOption o P Q → (x : A) × Q x
some_found None b P Q e f h = absurd (let t : not b ≡ true = ap not f in cc)
some_found (Some x) b P Q e f h = (x, h)

-- ---- its encoding

pub lent_encoded : (order : List ℕ → List ℕ → Ordering) (k : Kind) (limit : ℕ) (input : List ℕ) (found : Option (Vec ℕ Global)) (lent : CowSlice ℕ Global) → IsEncoded order k limit input (own_or input found) → cow_slice_items lent ≡ own_or input found → IsEncoded order k limit input (cow_slice_items lent)
lent_encoded order k limit input found lent e f = subst (IsEncoded order k limit input) (sym f) e

pub held : (order : List ℕ → List ℕ → Ordering) (laws : IsKeyOrder order) (k : Kind) (limit : ℕ) (input bytes : List ℕ) → length input ≤ most_bytes → IsEncoded order k limit input bytes → (vs : List Value) × Holds Kind.Wire limit bytes vs
held order laws k limit input bytes l e = let o = own_bytes order laws k limit input bytes l e in (o.own.items, o.own.held)

encoding_room : (order : List ℕ → List ℕ → Ordering) (limit : ℕ) (input bytes : List ℕ) → IsEncoded order Kind.Wire limit input bytes → 3 * length bytes ≤ 4 * length input
encoding_room order limit input bytes e =
    let r = sequence_room order e.held.nodes e.items bytes e.held.spelled.fit e.held.meant e.encoded in
    omega (arith, r, ap length e.held.spelled.spells)

pub room : (order : List ℕ → List ℕ → Ordering) (k out : Kind) (limit : ℕ) (input bytes output : List ℕ) → IsEncoded order k limit input bytes → IsWrittenAs out bytes output → k ≡ Kind.Wire → out ≡ Kind.Wire → 3 * length output ≤ 4 * length input
room order Kind.Wire Kind.Wire limit input bytes output e w p q = subst (λ (x : List ℕ). 3 * length x ≤ 4 * length input) (sym w) (encoding_room order limit input bytes e)
room order Kind.Wire _ limit input bytes output e w p q = absurd cc
room order _ out limit input bytes output e w p q = absurd cc

-- ---- a text holds the items that its bytes mean, and is shown as its bytes are

pub spells : (p : Profile) (limit : ℕ) (text : List ℕ) (nodes : List Tree) → IsNotation p limit text nodes → Spells (kind_of p) limit text nodes
spells Profile.One limit text nodes h = h
spells Profile.Two limit text nodes h = h

-- it holds what its nodes mean
pub encoded : (p : Profile) (limit : ℕ) (text : List ℕ) (nodes : List Tree) → IsUtf8 text → Notates p limit text (trees nodes) → (order : List ℕ → List ℕ → Ordering) (answer : List ℕ) → AreEncodedAs order nodes answer → IsEncoded order (kind_of p) limit text answer
encoded p limit text nodes u n order answer e = record {
  items = e.0;
  held = record { nodes = nodes; spelled = spells p limit text nodes (u, n); meant = e.1 };
  encoded = e.3;
}

-- its first flaw is that of the first node that means nothing
pub flawed : (p : Profile) (limit : ℕ) (text : List ℕ) (nodes : List Tree) → IsUtf8 text → Notates p limit text (trees nodes) → (place : ℕ) (r : InvalidReason) → IsFirst flaw_rank (FlawIn (trees nodes)) place r → IsRefusedHeld (kind_of p) limit text (EngineFault.Invalid (Invalid.Refused place r))
flawed p limit text nodes u n place r f most l = go p n
  where
    first : (q : Profile) → Notates q limit text (trees nodes) → IsRefusalOfAll nodes (Invalid.Refused place r)
    first q n = first_refusal nodes place r (rising_apart nodes (spots_rise q limit text (trees nodes) n)) f

    go : (q : Profile) → Notates q limit text (trees nodes) → IsRefusedWhole (kind_of q) limit most text (EngineFault.Invalid (Invalid.Refused place r))
    go Profile.One n = (l, record { nodes = nodes; spelled = (u, n); flaw = first Profile.One n })
    go Profile.Two n = (l, record { nodes = nodes; spelled = (u, n); flaw = first Profile.Two n })

-- of a text that spells these bytes
module _ (p : Profile) (limit : ℕ) (text bytes : List ℕ) (u : IsUtf8 text) (s : IsSpelling p limit text bytes) where
  notated : Spells (kind_of p) limit text (nodes_of s)
  notated = spells p limit text (nodes_of s) (u, (notated_of s))

  fits : length text ≤ most_bytes → FitsAll (trees (nodes_of s))
  fits l = (notated_fits p limit text (trees (nodes_of s)) (utf8_bytes text u) (omega (arith, l)) (notated_of s)).0

  -- their bytes are written
  pub as_bytes : (out : Kind) → out ≡ Kind.Wire → IsShown (kind_of p) out limit text bytes
  as_bytes out w = record { nodes = (nodes_of s); spelled = notated; shown = subst (λ k. IsSpelledAs k (nodes_of s) bytes) (sym w) (sym (spells_of s)) }

  -- their text is written
  pub as_text : (out : Kind) → (out ≡ Kind.Wire → ⊥) → (answer : List ℕ) → IsShownText limit bytes answer → length text ≤ most_bytes → IsShown (kind_of p) out limit text answer
  as_text out never answer t l =
      let same = same_nodes (trees t.nodes) (trees (nodes_of s)) t.read.fit (fits l) (t.read.spells ∙ sym (spells_of s)) in
      let shown = same_notation (trees t.nodes) (trees (nodes_of s)) answer same t.shown in
      record { nodes = (nodes_of s); spelled = notated; shown = notation out never (λ k. IsSpelledAs k (nodes_of s) answer) shown shown }

pub never_wire : (out : Kind) → (out ≡ Kind.Notation) ⊎ (out ≡ Kind.Notation2) → out ≡ Kind.Wire → ⊥
never_wire out (inl e) w = cc
never_wire out (inr e) w = cc
