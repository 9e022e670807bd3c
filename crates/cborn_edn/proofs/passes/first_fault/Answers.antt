use Rattle.std.specs.Prelude.{◌∷◌, ◌++◌, ◌≡◌}
use Rattle.cborn_edn.proofs.Common.{List, [], inl, refl, arith, joins, few, stops, subst, ℕ, length, Option, Some, None, TokensBetween, IsNextBareToken, BareToken, Class, Profile}
use Rattle.cborn_lex.proofs.WholeTexts.Progress.{nothing, inside}
use Rattle.cborn_edn.proofs.passes.first_fault.Goals as goal

-- one token as it is read
next_of : (p : Profile) (text : List ℕ) (at : ℕ) (o : Option BareToken) (n : ℕ) (old new : List ℕ) (t : BareToken) → o ≡ Some t → IsNextBareToken p text at o n old new → (c : Class) × TokensBetween p text at t.stop (record { start = t.start; stop = t.stop; class = c } ∷ [])
next_of p text at o n old new t e h = let k = subst (λ (q : Option BareToken). IsNextBareToken p text at q n old new) e h in (k.0, k.1)

last_of : (p : Profile) (text : List ℕ) (at : ℕ) (o : Option BareToken) (n : ℕ) (old new : List ℕ) → o ≡ None → IsNextBareToken p text at o n old new → TokensBetween p text at (length text) []
last_of p text at o n old new e h = (subst (λ (q : Option BareToken). IsNextBareToken p text at q n old new) e h).0

pub tokens-init : goal.tokens-init
tokens-init c = (([], nothing c.args.profile c.args.text.now c.args.at), c.requires)

pub tokens-preserved : goal.tokens-preserved
tokens-preserved c = grind (arith, inside, joins, next_of)

pub tokens-smaller : goal.tokens-smaller
tokens-smaller c = grind (arith, few, inside, next_of)

pub returns-in-Ok-None : goal.returns-in-Ok-None
returns-in-Ok-None c =
    let inv = c.tokens.invariant in
    let last = last_of c.args.profile c.args.text.now c.tokens.place c.in-Ok-None.field-0 c.next_token.new.number c.clear.new.self.items c.next_token.new.out.items c.in-Ok-None.field-0-is c.in-Ok-None.ensures.ok in
    inl (inv.0.0 ++ [], joins c.args.profile c.args.text.now c.args.at c.tokens.place _ inv.0.0 [] inv.0.1 last, refl)

pub returns-in-Err : goal.returns-in-Err
returns-in-Err c = grind (arith, stops)
