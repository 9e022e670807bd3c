use Rattle.cborn_edn.proofs.Common.{arith, passed_on, ap, ◌∙◌, class_of, IsNoNotation, lexical, reach, utf8_bytes}
use Rattle.cborn_edn.proofs.Lemmas.{stopped, last_read, token_read, ready, further, stop_inside, went_on, refusal}
use Rattle.cborn_edn.proofs.passes.take_rare.Goals as goal

pub returns-in_err-found-clause-refused : goal.returns-in_err-found-clause-refused
returns-in_err-found-clause-refused g c =
    passed_on c.from_residual-in_err-found.result (lexical c.in_err-found.field-0.0) (IsNoNotation c.args.profile c.args.limit c.args.text.now)
    (stopped c.args.profile c.args.limit c.args.text.now c.take_marked.new.here.at c.in_ok-take_marked.ensures.0.state c.in_ok-take_marked.ensures.0.reached c.in_err-found.field-0.0 c.in_err-found.ensures.refused) c.from_residual-in_err-found.ensures

pub returns-in_default-clause-read : goal.returns-in_default-clause-read
returns-in_default-clause-read g c = last_read c.args.profile c.args.limit c.args.text.now (utf8_bytes c.args.text.now c.in_ok-take_marked.ensures.0.utf8) c.take_marked.new.here c.take_marked.new.writer c.in_ok-take_marked.ensures.0 c.in_ok-found.found c.next_token.new.number (record c.take_marked.new.writer { pieces = c.next_token.new.out }) c.in_ok-found.ensures.ok c.in_default.is

pub take-requires : goal.take-requires
take-requires g c = (c.in_ok-take_marked.ensures.0.state, (c.take_marked.new.writer.pieces.items, (class_of c.in-Some.token.kind c.next_token.new.number (token_read c.args.profile c.args.text.now (utf8_bytes c.args.text.now c.in_ok-take_marked.ensures.0.utf8) c.take_marked.new.here c.take_marked.new.writer c.in_ok-found.found c.next_token.new.number (record c.take_marked.new.writer { pieces = c.next_token.new.out }) c.in-Some.token c.in_ok-found.ensures.ok c.in-Some.is).0, ready c.args.profile c.args.limit c.args.text.now (utf8_bytes c.args.text.now c.in_ok-take_marked.ensures.0.utf8) c.take_marked.new.here c.take_marked.new.writer c.in_ok-take_marked.ensures.0 c.next_token.new.number (record c.take_marked.new.writer { pieces = c.next_token.new.out }) c.in-Some.token (token_read c.args.profile c.args.text.now (utf8_bytes c.args.text.now c.in_ok-take_marked.ensures.0.utf8) c.take_marked.new.here c.take_marked.new.writer c.in_ok-found.found c.next_token.new.number (record c.take_marked.new.writer { pieces = c.next_token.new.out }) c.in-Some.token c.in_ok-found.ensures.ok c.in-Some.is) c.in_ok-take_marked.ensures.0.small)))

pub first_fault-requires : goal.first_fault-requires
first_fault-requires g c = stop_inside c.args.profile c.args.limit c.args.text.now (utf8_bytes c.args.text.now c.in_ok-take_marked.ensures.0.utf8) c.take_marked.new.here c.take_marked.new.writer c.in_ok-take_marked.ensures.0 c.next_token.new.number (record c.take_marked.new.writer { pieces = c.next_token.new.out }) c.in-Some.token (token_read c.args.profile c.args.text.now (utf8_bytes c.args.text.now c.in_ok-take_marked.ensures.0.utf8) c.take_marked.new.here c.take_marked.new.writer c.in_ok-found.found c.next_token.new.number (record c.take_marked.new.writer { pieces = c.next_token.new.out }) c.in-Some.token c.in_ok-found.ensures.ok c.in-Some.is)

pub returns-in-Some-judge-clause-refused : goal.returns-in-Some-judge-clause-refused
returns-in-Some-judge-clause-refused g c =
    let reported = c.first_fault.ensures in
    refusal c.args.profile c.args.limit c.args.text.now (utf8_bytes c.args.text.now c.in_ok-take_marked.ensures.0.utf8) c.take_marked.new.here c.take_marked.new.writer c.in_ok-take_marked.ensures.0 c.next_token.new.number (record c.take_marked.new.writer { pieces = c.next_token.new.out }) c.in-Some.token (token_read c.args.profile c.args.text.now (utf8_bytes c.args.text.now c.in_ok-take_marked.ensures.0.utf8) c.take_marked.new.here c.take_marked.new.writer c.in_ok-found.found c.next_token.new.number (record c.take_marked.new.writer { pieces = c.next_token.new.out }) c.in-Some.token c.in_ok-found.ensures.ok c.in-Some.is) (g.V.Visitor.holds c.take.new.visitor) c.take.new.here c.take.new.writer c.in_ok-taken.taken c.is_trailing_comma-trailing.result c.reach_of-reach.result c.in_ok-taken.ensures c.in_ok-take_marked.ensures.0.small c.is_trailing_comma-trailing.ensures (λ x. c.reach_of-reach.ensures x ∙ ap (λ l. reach l (class_of c.in-Some.token.kind c.next_token.new.number x)) c.count.ensures.count) c.in-Some-judge.reason c.first_fault.result c.in-Some-judge.ensures (rw c.refused-fault.ensures at reported)

pub returns-clause-read : goal.returns-clause-read
returns-clause-read g c = went_on c.args.profile c.args.limit c.args.text.now (utf8_bytes c.args.text.now c.in_ok-take_marked.ensures.0.utf8) c.take_marked.new.here c.take_marked.new.writer c.in_ok-take_marked.ensures.0 c.next_token.new.number (record c.take_marked.new.writer { pieces = c.next_token.new.out }) c.in-Some.token (token_read c.args.profile c.args.text.now (utf8_bytes c.args.text.now c.in_ok-take_marked.ensures.0.utf8) c.take_marked.new.here c.take_marked.new.writer c.in_ok-found.found c.next_token.new.number (record c.take_marked.new.writer { pieces = c.next_token.new.out }) c.in-Some.token c.in_ok-found.ensures.ok c.in-Some.is) (g.V.Visitor.holds c.take.new.visitor) c.take.new.here c.take.new.writer c.in_ok-taken.taken c.is_trailing_comma-trailing.result c.reach_of-reach.result c.in_ok-taken.ensures c.in_ok-take_marked.ensures.0.small c.is_trailing_comma-trailing.ensures (λ x. c.reach_of-reach.ensures x ∙ ap (λ l. reach l (class_of c.in-Some.token.kind c.next_token.new.number x)) c.count.ensures.count) c.in_default-judge.ensures

pub returns-clause-further : goal.returns-clause-further
returns-clause-further g c = omega (arith, c.in_ok-take_marked.ensures.1, further c.args.profile c.args.limit c.args.text.now (utf8_bytes c.args.text.now c.in_ok-take_marked.ensures.0.utf8) c.take_marked.new.here c.take_marked.new.writer c.in_ok-take_marked.ensures.0 c.next_token.new.number (record c.take_marked.new.writer { pieces = c.next_token.new.out }) c.in-Some.token (token_read c.args.profile c.args.text.now (utf8_bytes c.args.text.now c.in_ok-take_marked.ensures.0.utf8) c.take_marked.new.here c.take_marked.new.writer c.in_ok-found.found c.next_token.new.number (record c.take_marked.new.writer { pieces = c.next_token.new.out }) c.in-Some.token c.in_ok-found.ensures.ok c.in-Some.is))
