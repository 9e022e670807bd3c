use Rattle.std.specs.Prelude.{◌≡◌, ◌-◌, ◌++◌, OnOk}
use Rattle.cborn_det.proofs.Common.{ℕ, List, Bor, is_lt, ap, ◌∙◌, arith, drop, take, length, length-drop, subst, rules, IsPermutation, IsPermutation-map, ranks_by, answers_always, entries_of, joined, HasDistinctKeys, IsWritten, Entry}
use Rattle.std.proofs.lemmas.List.{take_all}
use Rattle.std.proofs.lemmas.Result.{on_ok_weaker}
use Rattle.cborn_det.proofs.Arranging.{total, rising_from_sorted}
use Rattle.cborn_det.proofs.Cutting.{one_written}
use Rattle.cborn_det.proofs.entries.arrange.Goals as goal

abbrev entry : Bor (List ℕ) × Bor (List ℕ) → Entry
entry e = (e.0.now, e.1.now)

pub returns-clause-arranged : goal.returns-clause-arranged
returns-clause-arranged g c =
    let arranged : List Entry = entries_of c.sort_unstable_by.new.self.items in
    let whole : OnOk c.extend_from_slice.result (c.extend_from_slice.new.self.items ≡ take c.args.start c.args.out.now.items ++ joined arranged) = search rules in
    on_ok_weaker c.extend_from_slice.result (λ is es w.
    let order = g.O.KeyOrder.order in
    let laws = g.met.O.KeyOrder.laws in
    let lengths = c.args.lengths.now in
    let start = c.args.start in
    let out = c.args.out.now.items in
    let entries : List Entry = entries_of c.in_ok-entries.entries.items in
    let b : List ℕ = c.deref.result.now in
    let read : take (length b - start) (drop start b) ≡ drop start out = take_all (length b - start) (drop start b) (omega (arith, length-drop start b)) ∙ ap (drop start) c.deref.ensures.value in
    let written : IsWritten entries lengths (drop start out) = subst (IsWritten entries lengths) read c.in_ok-entries.ensures in
    let one : entries ≡ es = one_written entries es lengths (drop start out) written w in
    let moved = IsPermutation-map entry _ _ c.sort_unstable_by.ensures.permutation in
    let distinct = subst HasDistinctKeys (one_written c.requires.written.0 entries lengths (drop start out) c.requires.written.1 written) c.requires.written.2 in
    let sorted = c.sort_unstable_by.ensures.sorted (λ x y. is_lt (order x.0.now y.0.now)) (ranks_by (total order laws) (λ (x : Bor (List ℕ) × Bor (List ℕ)). x.0.now)) (answers_always _ _ _ (λ f a r f' called. ap is_lt (search rules))) in
    (arranged, subst (λ (z : List Entry). IsPermutation z arranged) one moved, rising_from_sorted order laws entry _ _ distinct moved sorted, is)) whole
