-- What an encoder writes where a container opens.
use Rattle.std.specs.Prelude.{◌≡◌, ◌++◌}
use Rattle.cborn_judge.proofs.Common.{arith, ℕ, List, subst, Option, None, unwrap_or, code, IsLeastHead, Opening, an_array, a_map, a_tag, in_chunks, built, Tree, place, Appends, IsOpening, IsFront, IsHeadFront, Container, head_of, kind_major}

head_front : (m : ℕ) (c : Option ℕ) (h : List ℕ) → IsLeastHead m (unwrap_or c 0) h → IsHeadFront m c h
head_front m c h h1 = grind arith

abbrev pub IsLeastOf : Container → List ℕ → Type 0
IsLeastOf a h = IsLeastHead (code (head_of a).0) (unwrap_or (head_of a).1 0) h

pub front_there : (a : Container) (q : ℕ) (o : Opening) (old new : List ℕ) → IsOpening a q o → Appends (IsLeastOf a) old new → (h : List ℕ) × IsFront o h × (new ≡ old ++ h)
front_there a q (an_array p s c) old new b (h, least, e) = (h, head_front 4 c h (subst (λ k. IsLeastOf k h) b.1 least), e)
front_there a q (a_map p s c) old new b (h, least, e) = (h, head_front 5 c h (subst (λ k. IsLeastOf k h) b.1 least), e)
front_there a q (a_tag p w n) old new b (h, least, e) = (h, subst (λ k. IsLeastOf k h) b.1 least, e)
front_there a q (in_chunks p k) old new b (h, least, e) = (h, head_front (code (kind_major k)) None h (subst (λ i. IsLeastOf i h) b.1 least), e)

pub built_place : (a : Container) (q : ℕ) (o : Opening) (ts : List Tree) → IsOpening a q o → place (built o ts) ≡ q
built_place a q o ts h1 = grind arith
