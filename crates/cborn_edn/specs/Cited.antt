-- The definitions of this crate that its contracts cite, each from its file.
pub use Rattle.cborn_edn.specs.Faults.{HasMeaningError, HasSyntaxError, HasTree, IsNoNotation, IsSyntaxError}
pub use Rattle.cborn_edn.specs.Grammar.{IsText, Notates}
pub use Rattle.cborn_edn.specs.Says.{Str, joined, piece_errors, size_errors}
pub use Rattle.cborn_edn.specs.Shown.{AreShowable, IsShowFault, Shown, mark_for, shown_lines}
