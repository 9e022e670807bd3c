-- A device of the proofs: the meaning errors, at a state of the machine of tokens, of all that is whole since the innermost open `<<`. No definition cites it.
use Rattle.std.specs.Prelude.{List, [], ◌++◌, Option, Some, None}
use Rattle.cborn_edn.specs.Common.{MeaningError}
use Rattle.cborn_edn.specs.Says.{tag_errors, simple_errors}
use Rattle.cborn_edn.specs.devices.Syntax.{Pieces, StringsBefore, no_string, after_strings}
use Rattle.cborn_edn.specs.devices.Machine.{Stack, in_row, in_key, in_value, in_tag, Nest, at_top, in_array, in_embed, Home, as_item, as_chunk, State, wants, has, builds, wants_chunk, wants_number, has_number}
use Rattle.cborn_edn.specs.devices.Said.{faults, faults_of_pieces, faults_of_strings, faults_before, faults_before_pairs}

abbrev pub strings_noted : StringsBefore → List MeaningError
strings_noted no_string = []
strings_noted (after_strings ss c) = faults_of_strings ss

abbrev pub pieces_noted : Option Pieces → List MeaningError
pieces_noted None = []
pieces_noted (Some ps) = faults_of_pieces ps

abbrev mutual
  pub noted_stack : Stack → List MeaningError
  noted_stack (in_row n b) = noted_nest n ++ faults_before b
  noted_stack (in_key st s m b) = noted_stack st ++ faults_before_pairs b
  noted_stack (in_value st s m b k c) = noted_stack st ++ faults_before_pairs b ++ faults k
  noted_stack (in_tag st s n m) = noted_stack st ++ tag_errors s.start m n

  pub noted_nest : Nest → List MeaningError
  noted_nest at_top = []
  noted_nest (in_array st s m) = noted_stack st
  noted_nest (in_embed h o s) = []

  pub noted_home : Home → List MeaningError
  noted_home (as_item st) = noted_stack st
  noted_home (as_chunk st s b) = noted_stack st ++ strings_noted b

abbrev pub noted : State → List MeaningError
noted (wants st) = noted_stack st
noted (has st i) = noted_stack st ++ faults i
noted (builds h ps) = noted_home h ++ faults_of_pieces ps
noted (wants_chunk st s b) = noted_home (as_chunk st s b)
noted (wants_number st s) = noted_stack st
noted (has_number st s b n v m) = noted_stack st ++ simple_errors s.start b.start n v m
