-- What is known of the trees holds of the relation: a text notates one list of nodes, the same within larger limits and in profile 2, and is then not refused; what was shown reads back.
use Rattle.std.specs.Prelude.{◌≡◌, ◌^◌, ◌<◌, ◌≤◌, ◌⊎◌}
use Rattle.cborn_edn.proofs.Common.{HasTree, IsSyntaxError, refl, sym, ap, ◌∙◌, subst, ℕ, List, [], length, Option, Some, None, inl, inr, arith, IsUtf8, AreBytes, Trees, depth_all, FitsAll, spelled_all, Token, Profile, HasTokens, FailsAt, EdnReason, MeaningError, first_error, depth_of_input, Parse, unplaced_all, Shown, IsText, Notates, HasSyntaxError, HasMeaningError, nodes_of_input, faults_of_input, Parsed, ProfileOne, ProfileTwo, one_list, both_profiles as both_lexed, not_both as not_stopped, some_answer, as_test, text_light}
use Rattle.cborn_lex.specs.declared.faults.LexReason.{LexReason}
use Rattle.cborn_edn.proofs.Grammar.OneTree.{one_tree, both_profiles, not_both}
use Rattle.cborn_edn.proofs.Grammar.Parser.{answered}
use Rattle.cborn_edn.proofs.Meaning.Earliest.{nothing_among, Tells, tells}
use Rattle.cborn_edn.proofs.Meaning.Sound.{SoundAll, text_sound}
use Rattle.cborn_edn.proofs.Lexed.NodeTexts.{shown_tokens}
use Rattle.cborn_edn.proofs.RoundTrip.Retelling.{reads_same}
use Rattle.cborn_edn.proofs.RoundTrip.Unplaced.{same_bytes}
use Rattle.cborn_edn.proofs.Shown.Readable.{lines_show}
use Rattle.cborn_edn.proofs.Short.Rebuilt.{parsed, said_by}

-- two texts of the relation with the same tokens have one tree
same_parse : (p q : Profile) (limit most : ℕ) (x y : List Token) (ts us : Trees) (l m : List MeaningError) → x ≡ y → (a : Parsed p limit x ts l) → (b : Parsed q most y us m) → a.tree ≡ b.tree
same_parse p q limit most x y ts us l m e a b = one_tree p q y a.tree b.tree (subst (λ z. Parse p z a.tree) e a.parse) b.parse

pub one_notation : (profile : Profile) (limit most : ℕ) (text : List ℕ) (us vs : Trees) → Notates profile limit text us → Notates profile most text vs → us ≡ vs
one_notation p limit most text us vs (x, lex, h) (y, lexed, k) =
    let a = parsed p limit x us [] h in
    let b = parsed p most y vs [] k in
    sym a.says ∙ ap nodes_of_input (same_parse p p limit most x y us vs [] [] (one_list p text x y lex lexed) a b) ∙ b.says

-- LAW: tokens are a text in one way
pub one_text : (p q : Profile) (limit most : ℕ) (x : List Token) (ts us : Trees) (l m : List MeaningError) → IsText p limit x ts l → IsText q most x us m → (ts ≡ us) × (l ≡ m)
one_text p q limit most x ts us l m h k =
    let a = parsed p limit x ts l h in
    let b = parsed q most x us m k in
    let e = same_parse p q limit most x x ts us l m refl a b in
    (sym a.says ∙ ap nodes_of_input e ∙ b.says, sym a.errors ∙ ap faults_of_input e ∙ b.errors)

-- the same text, under another limit or profile
again : (p q : Profile) (limit most : ℕ) (x : List Token) (ts : Trees) (l : List MeaningError) (a : Parsed p limit x ts l) → Parse q x a.tree → depth_of_input a.tree ≤ most → IsText q most x ts l
again p q limit most x ts l a parse low = said_by q most x ts l (record { tree = a.tree; parse = parse; shallow = low; says = a.says; errors = a.errors })

pub larger : (profile : Profile) (limit most : ℕ) (text : List ℕ) (nodes : Trees) → limit ≤ most → Notates profile limit text nodes → Notates profile most text nodes
larger p limit most text nodes low (x, lex, h) = let a = parsed p limit x nodes [] h in (x, lex, again p p limit most x nodes [] a a.parse (omega (arith, low, a.shallow)))

-- LAW: what is a text in profile 1 is the same text in profile 2
pub both_texts : (limit : ℕ) (x : List Token) (ts : Trees) (l : List MeaningError) → IsText ProfileOne limit x ts l → IsText ProfileTwo limit x ts l
both_texts limit x ts l h = let a = parsed ProfileOne limit x ts l h in again ProfileOne ProfileTwo limit limit x ts l a (both_profiles x a.tree a.parse) a.shallow

pub both_notate : (limit : ℕ) (text : List ℕ) (nodes : Trees) → Notates ProfileOne limit text nodes → Notates ProfileTwo limit text nodes
both_notate limit text nodes (x, lex, h) = let a = parsed ProfileOne limit x nodes [] h in (x, (both_lexed text x lex), again ProfileOne ProfileTwo limit limit x nodes [] a (both_profiles x a.tree a.parse) a.shallow)

-- LAW: what was shown reads back
pub shown_back : (profile : Profile) (limit : ℕ) (nodes : Trees) (text : List ℕ) → FitsAll nodes → Shown nodes text → depth_all nodes ≤ limit → (says : Trees) × Notates profile limit text says × (unplaced_all says ≡ unplaced_all nodes) × (spelled_all says ≡ spelled_all nodes)
shown_back p limit nodes text fits shown low =
    let r = shown_tokens p nodes text fits shown in
    let b = reads_same p limit nodes r.0 fits (lines_show nodes fits (subst IsUtf8 shown.1 shown.0)) low r.2 in
    (b.0, (r.0, r.1, b.1), b.2, same_bytes b.0 nodes b.2)

pub shown_only : (profile : Profile) (limit : ℕ) (nodes : Trees) (text : List ℕ) (says : Trees) → FitsAll nodes → Shown nodes text → Notates profile limit text says → (unplaced_all says ≡ unplaced_all nodes) × (spelled_all says ≡ spelled_all nodes)
shown_only p limit nodes text says fits shown h =
    let r = shown_back p (depth_all nodes) nodes text fits shown (omega arith) in
    let e : says ≡ r.0 = one_notation p limit (depth_all nodes) text says r.0 h r.1 in
    (ap unplaced_all e ∙ r.2, ap spelled_all e ∙ r.3)

-- LAW: the nodes of a text are within the limit, and fit their widths if they spell bytes that are few enough
pub notated_sound : (profile : Profile) (limit : ℕ) (text : List ℕ) (nodes : Trees) → AreBytes text → (h : Notates profile limit text nodes) → SoundAll h.0 nodes limit
notated_sound p limit text nodes are (x, taken, h) = text_sound h (text_light p text x are taken).0

-- LAW: the nodes of a short text fit their widths and are within the limit
pub notated_fits : (profile : Profile) (limit : ℕ) (text : List ℕ) (nodes : Trees) → AreBytes text → length text < 2 ^ 56 → Notates profile limit text nodes → FitsAll nodes × (depth_all nodes ≤ limit)
notated_fits p limit text nodes are short (x, taken, h) =
    let light = text_light p text x are taken in
    let s = notated_sound p limit text nodes are (x, taken, h) in
    (s.fits (omega (arith, light.1, s.few)), s.low)

-- LAW: a text that notates nodes isn't refused
pub no_stop : (p : Profile) (limit : ℕ) (text : List ℕ) (nodes : Trees) → Notates p limit text nodes → (q : ℕ) (r : LexReason) → FailsAt p text q r → ⊥
no_stop p limit text nodes (x, lex, h) q r s = not_stopped p text x q r lex s

pub no_syntax_error : (p : Profile) (limit : ℕ) (text : List ℕ) (nodes : Trees) → Notates p limit text nodes → (q : ℕ) (r : EdnReason) → HasSyntaxError p limit text q r → ⊥
no_syntax_error p limit text nodes h1 q r h2 = grind (arith, not_both, one_list)

pub no_error : (p : Profile) (limit most : ℕ) (text : List ℕ) (nodes : Trees) → Notates p limit text nodes → (q : ℕ) (r : EdnReason) → HasMeaningError p most text q r → ⊥
no_error p limit most text nodes (x, lex, h) q r (y, ts, l, lexed, k, f) =
    let a = parsed p limit x nodes [] h in
    let b = parsed p most y ts l k in
    let same = same_parse p p most limit y x ts nodes l [] (one_list p text y x lexed lex) b a in
    nothing_among l q r (sym b.errors ∙ ap faults_of_input same ∙ a.errors) f.is

abbrev pub Answered : Profile → ℕ → List ℕ → Type 0
Answered p limit text = ((nodes : Trees) × Notates p limit text nodes) ⊎ (((q : ℕ) × (r : LexReason) × FailsAt p text q r) ⊎ ((q : ℕ) × (r : EdnReason) × (HasSyntaxError p limit text q r ⊎ HasMeaningError p limit text q r)))

module _ (p : Profile) (limit : ℕ) (text : List ℕ) where
  judged : (x : List Token) → HasTokens p text x → (ts : Trees) (l : List MeaningError) → IsText p limit x ts l → Answered p limit text
  judged x taken ts l h = go (first_error l) (tells l)
    where
      go : (o : Option MeaningError) → Tells l o → Answered p limit text
      go None e = inl (ts, (x, taken, subst (IsText p limit x ts) e h))
      go (Some s) f = inr (inr (s.place, s.reason, inr (x, ts, l, taken, h, f)))

  of_tokens : (x : List Token) → HasTokens p text x → HasTree p limit x ⊎ ((q : ℕ) × (r : EdnReason) × IsSyntaxError p limit (length text) x q r) → Answered p limit text
  of_tokens x h1 h2 = grind (arith, judged)

  of_text : ((x : List Token) × HasTokens p text x) ⊎ ((q : ℕ) × (r : LexReason) × FailsAt p text q r) → Answered p limit text
  of_text (inl (x, lex)) = of_tokens x lex (answered p limit (length text) x)
  of_text (inr (q, r, stop)) = inr (inl (q, r, stop))

  -- LAW: a text has an answer
  pub some_text : AreBytes text → Answered p limit text
  some_text are = of_text (some_answer p text (as_test text are))
