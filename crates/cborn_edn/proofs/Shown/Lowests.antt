-- Texts of nodes that are UTF-8: as the definition says it, and node by node.
use Rattle.std.specs.Prelude.{◌≡◌, ◌∷◌}
use Rattle.cborn_edn.proofs.Common.{arith, refl, sym, ◌∙◌, ℕ, List, [], Bool, true, false, inl, inr, IsUtf8-from_is_utf8, is_utf8-from_IsUtf8, is_utf8, IsUtf8, Chunk, Tree, TextChunks, Items, Tagged, Trees, more, Entries, no_entry, entry, IsBadChunk, IsBadText, IsBadAmong, IsBadInPairs, AreShowable, AreTexts, IsShowable, EachShowable, ArePairsShowable, TextNode, Pairs as PairNode, no_node}

good : (x : List ℕ) → (is_utf8 x ≡ false → ⊥) → is_utf8 x ≡ true
good x h = grind arith

not_bad : (x : List ℕ) → is_utf8 x ≡ true → is_utf8 x ≡ false → ⊥
not_bad x e f = let d : true ≡ false = sym e ∙ f in cc

chunks_good : (cs : List Chunk) → ((p : ℕ) → IsBadChunk cs p → ⊥) → AreTexts cs
chunks_good [] h = tt
chunks_good (c ∷ cs) h = (good c.bytes (λ e. h c.place (inl (refl, e))), chunks_good cs (λ p b. h p (inr b)))

chunks_bad : (cs : List Chunk) (p : ℕ) → AreTexts cs → IsBadChunk cs p → ⊥
chunks_bad [] p s h = h
chunks_bad (c ∷ cs) p s (inl h) = not_bad c.bytes s.0 h.1
chunks_bad (c ∷ cs) p s (inr h) = chunks_bad cs p s.1 h

mutual
  text_good : (t : Tree) → ((p : ℕ) → IsBadText t p → ⊥) → IsShowable t
  text_good (TextNode p w x) h = good x (λ e. h p (refl, e))
  text_good (TextChunks p cs) h = chunks_good cs h
  text_good (Items p s ts) h = each_showable ts h
  text_good (PairNode p s es) h = pairs_good es h
  text_good (Tagged p w n t) h = text_good t h
  text_good _ h = tt

  -- nodes have no bad text exactly if each of them is showable
  pub each_showable : (ts : Trees) → AreShowable ts → EachShowable ts
  each_showable no_node h = tt
  each_showable (more t ts) h = (text_good t (λ p b. h p (inl b)), each_showable ts (λ p b. h p (inr b)))

  pairs_good : (es : Entries) → ((p : ℕ) → IsBadInPairs es p → ⊥) → ArePairsShowable es
  pairs_good no_entry h = tt
  pairs_good (entry k v es) h = (text_good k (λ p b. h p (inl b)), text_good v (λ p b. h p (inr (inl b))), pairs_good es (λ p b. h p (inr (inr b))))

mutual
  text_bad : (t : Tree) (p : ℕ) → IsShowable t → IsBadText t p → ⊥
  text_bad (TextNode q w x) p s h = not_bad x s h.1
  text_bad (TextChunks q cs) p s h = chunks_bad cs p s h
  text_bad (Items q n ts) p s h = among_bad ts p s h
  text_bad (PairNode q n es) p s h = pairs_bad es p s h
  text_bad (Tagged q w n t) p s h = text_bad t p s h
  text_bad _ p s h = h

  among_bad : (ts : Trees) (p : ℕ) → EachShowable ts → IsBadAmong ts p → ⊥
  among_bad no_node p s h = h
  among_bad (more t ts) p s (inl h) = text_bad t p s.0 h
  among_bad (more t ts) p s (inr h) = among_bad ts p s.1 h

  pairs_bad : (es : Entries) (p : ℕ) → ArePairsShowable es → IsBadInPairs es p → ⊥
  pairs_bad no_entry p s h = h
  pairs_bad (entry k v es) p s (inl h) = text_bad k p s.0 h
  pairs_bad (entry k v es) p s (inr (inl h)) = text_bad v p s.1 h
  pairs_bad (entry k v es) p s (inr (inr h)) = pairs_bad es p s.2 h

pub are_showable : (ts : Trees) → EachShowable ts → AreShowable ts
are_showable ts s p h = among_bad ts p s h

pub utf8_is : (b : Bool) (x : List ℕ) → (b ≡ true → IsUtf8 x) → (IsUtf8 x → b ≡ true) → b ≡ is_utf8 x
utf8_is b x f g = go (is_utf8 x) refl b f g
  where
    go : (c : Bool) → is_utf8 x ≡ c → (b : Bool) → (b ≡ true → IsUtf8 x) → (IsUtf8 x → b ≡ true) → b ≡ c
    go true e true f g = refl
    go true e false f g = g (IsUtf8-from_is_utf8 x e)
    go false e true f g = sym (is_utf8-from_IsUtf8 x (f refl)) ∙ e
    go false e false f g = refl
