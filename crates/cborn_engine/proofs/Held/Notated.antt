-- What a text notates: it fits, is no deeper than the limit, and the text isn't refused.
use Rattle.std.specs.Prelude.{◌≤◌}
use Rattle.cborn_engine.proofs.Common.{ℕ, List, length, arith, Tree, trees, depth_all, FitsAll, Profile, EdnReason, HasSyntaxError, HasMeaningError, IsNotation, most_bytes, utf8_bytes, notated_fits, no_stop as never_stops, no_syntax_error as never_syntax_error, no_error as never_errors}
use Rattle.cborn_lex.specs.declared.faults.LexReason.{LexReason}
use Rattle.cborn_lex.specs.Bad.{FailsAt}

module _ (p : Profile) (limit : ℕ) (text : List ℕ) (ns : List Tree) (h : IsNotation p limit text ns) where
  pub fits : length text ≤ most_bytes → FitsAll (trees ns) × (depth_all (trees ns) ≤ limit)
  fits l = notated_fits p limit text (trees ns) (utf8_bytes text h.0) (omega (arith, l)) h.1

  pub no_stop : (q : ℕ) (r : LexReason) → FailsAt p text q r → ⊥
  no_stop = never_stops p limit text (trees ns) h.1

  pub no_syntax_error : (q : ℕ) (r : EdnReason) → HasSyntaxError p limit text q r → ⊥
  no_syntax_error = never_syntax_error p limit text (trees ns) h.1

  pub no_error : (q : ℕ) (r : EdnReason) → HasMeaningError p limit text q r → ⊥
  no_error = never_errors p limit limit text (trees ns) h.1
