use Rattle.std.specs.Prelude.{◌≡◌, ◌++◌, ◌∷◌}
use Rattle.cborn_det.proofs.Common.{rules, List, ℕ, arith, [], ap, ◌∙◌, sym, subst, Bor, map-append, entries_of, IsWritten}
use Rattle.cborn_det.proofs.Cutting.{cut_fits, cut_more}
use Rattle.cborn_det.proofs.entries.entries_in.Goals as goal

pub split_at-requires : goal.split_at-requires
split_at-requires c =
    (cut_fits c.loop-key_len.invariant.0 c.args.lengths.now c.loop-key_len.key_len-index c.loop-key_len.rest.now (omega arith) c.loop-key_len.invariant.1).0

pub loop-key_len-preserved : goal.loop-key_len-preserved
loop-key_len-preserved c =
    let key : List ℕ = c.split_at.result.0.now in
    let value : List ℕ = c.split_at-in-loop-key_len.result.0.now in
    let t = cut_more c.loop-key_len.invariant.0 (entries_of c.loop-key_len.entries.items) c.args.lengths.now c.loop-key_len.key_len-index c.loop-key_len.rest.now c.args.written.now key value c.split_at-in-loop-key_len.result.1.now (omega arith) c.loop-key_len.invariant.1 c.loop-key_len.invariant.2 (search rules) (search rules) (search rules) in
    let pushed : entries_of c.push.new.self.items ≡ entries_of c.loop-key_len.entries.items ++ (c.split_at.result.0.now, c.split_at-in-loop-key_len.result.0.now) ∷ [] = ap entries_of c.in_ok-push.ensures.items ∙ map-append (λ (e : Bor (List ℕ) × Bor (List ℕ)). (e.0.now, e.1.now)) c.loop-key_len.entries.items _ in
    (t.0, t.1, subst (λ z. IsWritten (z ++ t.0) c.args.lengths.now c.args.written.now) (sym pushed) t.2)
