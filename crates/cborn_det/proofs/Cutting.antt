-- Entries that lie one after another in a buffer: what is read of them.
use Rattle.std.specs.Prelude.{◌≡◌, ◌+◌, ◌<◌, ◌≤◌, ◌∷◌, ◌++◌}
use Rattle.cborn_det.proofs.Common.{ℕ, List, [], length, map, take, drop, get_or, refl, sym, ap, ◌∙◌, subst, arith, append_assoc, take_at, drop_at, length-append, length-drop, drop_more, Entry, joined, IsWritten, lengths_of, append_same}

-- what was written says which entries there are
pub one_written : (es fs : List Entry) (cs : List (ℕ × ℕ)) (b : List ℕ) → IsWritten es cs b → IsWritten fs cs b → es ≡ fs
one_written [] [] cs b p q = refl
one_written [] (f ∷ fs) cs b p q = cc (p.0, q.0)
one_written (e ∷ es) [] cs b p q = cc (p.0, q.0)
one_written (e ∷ es) (f ∷ fs) cs b p q =
    let both : map lengths_of (e ∷ es) ≡ map lengths_of (f ∷ fs) = sym p.0 ∙ q.0 in
    let here : lengths_of e ≡ lengths_of f = cc in
    let later : map lengths_of es ≡ map lengths_of fs = cc in
    let t = append_same e.0 f.0 (e.1 ++ joined es) (f.1 ++ joined fs) (ap (λ (z : ℕ × ℕ). z.0) here) (sym (append_assoc e.0 e.1 (joined es)) ∙ sym p.1 ∙ q.1 ∙ append_assoc f.0 f.1 (joined fs)) in
    let u = append_same e.1 f.1 (joined es) (joined fs) (ap (λ (z : ℕ × ℕ). z.1) here) t.1 in
    let rest = one_written es fs (map lengths_of es) (joined es) (refl, refl) (later, u.1) in
    λ i. (t.0 i, u.0 i) ∷ rest i

-- the parts of what is left
pub cut : (es : List Entry) (c : ℕ × ℕ) (cs : List (ℕ × ℕ)) (b : List ℕ) → IsWritten es (c ∷ cs) b → (e : Entry) × (rest : List Entry) × (es ≡ e ∷ rest) × (c.0 ≡ length e.0) × (c.1 ≡ length e.1) × (cs ≡ map lengths_of rest) × (b ≡ e.0 ++ (e.1 ++ joined rest))
cut [] c cs b w = cc (w.0)
cut (e ∷ es) c cs b w =
    let here : c ≡ (length e.0, length e.1) = cc (w.0) in
    (e, es, refl, ap (λ (z : ℕ × ℕ). z.0) here, ap (λ (z : ℕ × ℕ). z.1) here, cc (w.0), w.1 ∙ append_assoc e.0 e.1 (joined es))

pub cut_fits : (es : List Entry) (lengths : List (ℕ × ℕ)) (i : ℕ) (b : List ℕ) → i < length lengths → IsWritten es (drop i lengths) b
    → ((get_or lengths i (0, 0)).0 ≤ length b) × ((get_or lengths i (0, 0)).1 ≤ length (drop (get_or lengths i (0, 0)).0 b))
cut_fits es lengths i b l w =
    let t = cut es (get_or lengths i (0, 0)) (drop (i + 1) lengths) b (subst (λ z. IsWritten es z b) (drop_more lengths i (0, 0) l) w) in
    let whole : length b ≡ length t.0.0 + (length t.0.1 + length (joined t.1)) = ap length t.6 ∙ length-append t.0.0 (t.0.1 ++ joined t.1) ∙ ap (λ z. length t.0.0 + z) (length-append t.0.1 (joined t.1)) in
    (omega (arith, whole, t.3), omega (arith, whole, t.3, t.4, length-drop (get_or lengths i (0, 0)).0 b))

pub cut_more : (es front : List Entry) (lengths : List (ℕ × ℕ)) (i : ℕ) (b all k v rest : List ℕ) → i < length lengths → IsWritten es (drop i lengths) b → IsWritten (front ++ es) lengths all
    → k ≡ take (get_or lengths i (0, 0)).0 b → v ≡ take (get_or lengths i (0, 0)).1 (drop (get_or lengths i (0, 0)).0 b) → rest ≡ drop (get_or lengths i (0, 0)).1 (drop (get_or lengths i (0, 0)).0 b)
    → (fs : List Entry) × IsWritten fs (drop (i + 1) lengths) rest × IsWritten ((front ++ (k, v) ∷ []) ++ fs) lengths all
cut_more es front lengths i b all k v rest l w a p q r =
    let c = get_or lengths i (0, 0) in
    let t = cut es (get_or lengths i (0, 0)) (drop (i + 1) lengths) b (subst (λ z. IsWritten es z b) (drop_more lengths i (0, 0) l) w) in
    let after : drop (get_or lengths i (0, 0)).0 b ≡ t.0.1 ++ joined t.1 = ap (drop (get_or lengths i (0, 0)).0) t.6 ∙ drop_at t.0.0 (t.0.1 ++ joined t.1) (get_or lengths i (0, 0)).0 (sym t.3) in
    let key : k ≡ t.0.0 = p ∙ ap (take (get_or lengths i (0, 0)).0) t.6 ∙ take_at t.0.0 (t.0.1 ++ joined t.1) (get_or lengths i (0, 0)).0 (sym t.3) in
    let val : v ≡ t.0.1 = q ∙ ap (take (get_or lengths i (0, 0)).1) after ∙ take_at t.0.1 (joined t.1) (get_or lengths i (0, 0)).1 (sym t.4) in
    let others : rest ≡ joined t.1 = r ∙ ap (drop (get_or lengths i (0, 0)).1) after ∙ drop_at t.0.1 (joined t.1) (get_or lengths i (0, 0)).1 (sym t.4) in
    let same : front ++ es ≡ (front ++ (k, v) ∷ []) ++ t.1 = ap (λ z. front ++ z) t.2 ∙ (λ j. front ++ ((sym key j, sym val j) ∷ t.1)) ∙ sym (append_assoc front ((k, v) ∷ []) t.1) in
    (t.1, (t.5, others), subst (λ z. IsWritten z lengths all) same a)
