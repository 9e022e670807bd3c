-- A string that no other piece follows is an item.
use Rattle.std.specs.Prelude.{◌≡◌, ◌∷◌, ◌++◌}
use Rattle.cborn_edn.proofs.Common.{arith, sym, ap, ◌∙◌, ℕ, List, length, Option, is_utf8-from_IsUtf8, IsUtf8, least, Absent, Profile, Token, MeaningError, unless, TextNotUtf8, first_error, Span, Item, Pieces, piece, text, string, node, faults, NoPieceAt, noted_stack, Reached, TextNode, Stack, as_item, has, builds, finish, at_end, parse, EndsPieces}
use Rattle.cborn_edn.proofs.Reader.NextPieces.{next_ends}
use Rattle.cborn_edn.proofs.Reader.Showing.{same_errors}

finish_same : (st : Stack) (ps : Pieces) → finish (builds (as_item st) ps) ≡ finish (has st (string ps))
finish_same st ps = grind arith

parse_same : (p : Profile) (limit : ℕ) (st : Stack) (ps : Pieces) (t : Token) → EndsPieces t.class → (more : List Token) (end : ℕ) → parse p limit end (t ∷ more) (builds (as_item st) ps) ≡ parse p limit end (t ∷ more) (has st (string ps))
parse_same p limit st ps t h1 more end = grind arith

-- LAW: what the tokens lead to, once the string is whole
pub settled : (p : Profile) (limit : ℕ) (source : List ℕ) (at : ℕ) (st : Stack) (ps : Pieces) → NoPieceAt source at → Reached p limit source at (builds (as_item st) ps) → Reached p limit source at (has st (string ps))
settled p limit source at st ps none r = record {
  tokens = r.tokens;
  between = r.between;
  modest = r.modest;
  held = r.held;
  runs = λ t stop b more end. r.runs t stop b more end ∙ parse_same p limit st ps t (next_ends p source at stop t none b) more end;
  stops = λ end. r.stops end ∙ ap (at_end end) (finish_same st ps);
}

-- a text string in one piece without an indicator
abbrev pub text_item : Span → List ℕ → Item
text_item a x = string (piece (text a x Absent))

pub text_node : (a : Span) (x : List ℕ) → node (text_item a x) ≡ TextNode a.start (least (length x)) x
text_node a x = grind arith

-- LAW: it has no meaning error
pub text_noted : (o : Option MeaningError) (st : Stack) (a : Span) (x : List ℕ) → IsUtf8 x → o ≡ first_error (noted_stack st) → o ≡ first_error (noted_stack st ++ faults (text_item a x))
text_noted o st a x u e = same_errors o (noted_stack st) e ∙ ap (λ b. first_error (noted_stack st ++ unless b a.start TextNotUtf8)) (sym (is_utf8-from_IsUtf8 x u))
