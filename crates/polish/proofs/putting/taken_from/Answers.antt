-- Behind one value more, with its name, the position is one less.
use Rattle.std.proofs.Common.{rules, ◌≡◌, [], ◌∷◌, ◌++◌, map, string_bytes, ap, ◌∙◌}
use Rattle.std.proofs.lemmas.List.{map_push}
use Rattle.expression_lang.specs.CodeExpression.{exp_of}
use Rattle.polish.proofs.Takings.{taken_on}
use Rattle.polish.proofs.putting.taken_from.Goals as goal

pub along-preserved : goal.along-preserved
along-preserved c =
    let exp = c.in-Some.exp.now in
    let name = c.in-Some-split_first.name.now in
    let values : map exp_of c.along.left.now ≡ exp_of exp ∷ map exp_of c.in-Some.others.now = search rules in
    let names : map string_bytes c.along.right.now ≡ string_bytes name ∷ map string_bytes c.in-Some-split_first.after.now =
    search rules in
    let exps : map exp_of c.push.new.self.items ≡ map exp_of c.along.exps.items ++ exp_of exp ∷ [] =
    ap (λ es. map exp_of es) c.in_ok-push.ensures.items ∙ map_push exp_of c.along.exps.items c.in_ok-copy.field-0
    ∙ ap (λ e. map exp_of c.along.exps.items ++ e ∷ []) c.in_ok-copy.ensures in
    let same : string_bytes c.in_ok-clone.field-0 ≡ string_bytes name = search rules in
    let own : map string_bytes c.push-in-along.new.self.items ≡ map string_bytes c.along.own.items ++ string_bytes name ∷ [] =
    ap (λ xs. map string_bytes xs) c.in_ok-push-2.ensures.items ∙ map_push string_bytes c.along.own.items c.in_ok-clone.field-0
    ∙ ap (λ x. map string_bytes c.along.own.items ++ x ∷ []) same in
    taken_on c.along.count (map exp_of c.along.left.now) (map exp_of c.in-Some.others.now) (map exp_of c.along.exps.items)
    (map exp_of c.push.new.self.items) (exp_of exp) (map string_bytes c.along.right.now)
    (map string_bytes c.in-Some-split_first.after.now) (map string_bytes c.along.own.items)
    (map string_bytes c.push-in-along.new.self.items) (string_bytes name) values names c.if-count-eq0.false exps own
    c.along.invariant
