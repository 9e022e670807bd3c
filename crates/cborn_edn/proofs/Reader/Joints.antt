-- The meaning errors of a string, and of its pieces.
use Rattle.std.specs.Prelude.{◌≡◌, ◌++◌, ◌&&◌, if◌then◌else◌}
use Rattle.cborn_edn.proofs.Common.{arith, refl, sym, ap, ◌∙◌, subst, ℕ, List, [], length, Bool, true, false, Option, Mark, StringKind, MeaningError, IndicatorNotAllowed, TextNotUtf8, MixedString, MixedChunks, unless, width_errors, is_absent, is_endless, is_good, may_join, same_kind, Str, joined, piece_errors, mark_errors, string_errors, chunk_errors, Joint, Notes, joint}
use Rattle.cborn_edn.proofs.Meaning.Earliest.{none_noted, both_noted}

abbrev marked : Bool → Bool → Str → List MeaningError → List MeaningError
marked b k s l = if b then l else if k then width_errors s.mark_place s.mark (length s.bytes) else []

module _ (j : Joint) (s : Str) (e : j ≡ joint s) where
  pub string_noted : (may_end good : Bool) (content : List ℕ) (old mid new : Option MeaningError) → (s.known ≡ true → content ≡ s.bytes) → Notes old mid (mark_errors may_end s) → j.known ≡ true → good ≡ is_good j.kind content → Notes mid new (unless good j.place TextNotUtf8) → Notes old new (string_errors may_end s)
  string_noted may_end good content old mid new same first k g last =
      let sure : s.known ≡ true = sym (ap (λ (x : Joint). x.known) e) ∙ k in
      let test : good ≡ is_good s.kind s.bytes = g ∙ (λ i. is_good (e i).kind (same sure i)) in
      let noted : Notes mid new (unless (is_good s.kind s.bytes) s.place TextNotUtf8) = subst (λ b. Notes mid new (unless b s.place TextNotUtf8)) test (subst (λ (x : Joint). Notes mid new (unless good x.place TextNotUtf8)) e last) in
      subst (λ b. Notes old new (mark_errors may_end s ++ (if b then unless (is_good s.kind s.bytes) s.place TextNotUtf8 else []))) (sym sure) (both_noted old mid new (mark_errors may_end s) (unless (is_good s.kind s.bytes) s.place TextNotUtf8) first noted)

  pub string_unknown : (may_end : Bool) (old new : Option MeaningError) → Notes old new (mark_errors may_end s) → j.known ≡ false → Notes old new (string_errors may_end s)
  string_unknown may_end old new h1 h2 = grind arith

  pub mark_endless : (may_end : Bool) (old new : Option MeaningError) → is_endless j.mark ≡ true → Notes old new (unless may_end j.mark_place IndicatorNotAllowed) → Notes old new (mark_errors may_end s)
  mark_endless may_end old new h1 h2 = grind arith

  pub mark_wide : (may_end : Bool) (size : ℕ) (old new : Option MeaningError) → (s.known ≡ true → size ≡ length s.bytes) → is_endless j.mark ≡ false → j.known ≡ true → Notes old new (width_errors j.mark_place j.mark size) → Notes old new (mark_errors may_end s)
  mark_wide may_end size old new h1 h2 h3 h4 = grind arith

  pub mark_unknown : (may_end : Bool) (old : Option MeaningError) → is_endless j.mark ≡ false → j.known ≡ false → Notes old old (mark_errors may_end s)
  mark_unknown may_end old h1 h2 = grind (arith, none_noted)

  -- a piece after others
  pub piece_noted : (bare fits : Bool) (kind : StringKind) (place : ℕ) (t : Str) (old mid new : Option MeaningError) → kind ≡ t.kind → place ≡ t.place → bare ≡ is_absent j.mark → fits ≡ may_join j.kind kind
      → Notes old mid (unless bare j.mark_place IndicatorNotAllowed) → Notes mid new (unless fits place MixedString) → Notes old new (piece_errors s t)
  piece_noted bare fits kind place t old mid new k p b f h i =
      let one : Notes old mid (unless (is_absent s.mark) s.mark_place IndicatorNotAllowed) = subst (λ (x : Joint). Notes old mid (unless (is_absent x.mark) x.mark_place IndicatorNotAllowed)) e (subst (λ x. Notes old mid (unless x j.mark_place IndicatorNotAllowed)) b h) in
      let fit : fits ≡ may_join s.kind t.kind = f ∙ (λ i. may_join (e i).kind (k i)) in
      let two : Notes mid new (unless (may_join s.kind t.kind) t.place MixedString) = subst (λ x. Notes mid new (unless x t.place MixedString)) fit (subst (λ x. Notes mid new (unless fits x MixedString)) p i) in
      both_noted old mid new (unless (is_absent s.mark) s.mark_place IndicatorNotAllowed) (unless (may_join s.kind t.kind) t.place MixedString) one two

  pub chunk_noted : (same : Bool) (kind : StringKind) (old mid new : Option MeaningError) → same ≡ same_kind kind j.kind → Notes old mid (unless same j.place MixedChunks) → Notes mid new (string_errors false s) → Notes old new (chunk_errors kind s)
  chunk_noted same kind old mid new b h i =
      let one : Notes old mid (unless (same_kind kind s.kind) s.place MixedChunks) = subst (λ (x : Joint). Notes old mid (unless (same_kind kind x.kind) x.place MixedChunks)) e (subst (λ x. Notes old mid (unless x j.place MixedChunks)) b h) in
      both_noted old mid new (unless (same_kind kind s.kind) s.place MixedChunks) (string_errors false s) one i

  pub embedded_joint : (t : Str) (place : ℕ) (m : Mark) (known both : Bool) → t.known ≡ known → t.mark ≡ m → t.mark_place ≡ place → both ≡ (j.known && known)
      → let k : Joint = record { kind = j.kind; place = j.place; mark = m; mark_place = place; lone = false; known = both } in k ≡ joint (joined s t)
  embedded_joint t place m known both k n p b =
      let sure : both ≡ (s.known && t.known) = b ∙ (λ i. (e i).known && sym k i) in
      let mark : m ≡ t.mark = sym n in
      let at : place ≡ t.mark_place = sym p in
      λ i. record { kind = (e i).kind; place = (e i).place; mark = mark i; mark_place = at i; lone = false; known = sure i }

  -- one more piece that is known
  pub known_joint : (t : Str) (place : ℕ) (m : Mark) → t.known ≡ true → t.mark ≡ m → t.mark_place ≡ place
      → let k : Joint = record { kind = j.kind; place = j.place; mark = m; mark_place = place; lone = false; known = j.known } in k ≡ joint (joined s t)
  known_joint t place m k n p = embedded_joint t place m true j.known k n p (and_true j.known)
    where
      and_true : (b : Bool) → b ≡ (b && true)
      and_true true = refl
      and_true false = refl
