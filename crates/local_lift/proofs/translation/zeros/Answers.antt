use Rattle.std.proofs.Common.{rules, ◌≡◌, ◌++◌, ◌∷◌, [], map, string_bytes, subst, ap, ◌∙◌}
use Rattle.std.proofs.lemmas.List.{nil_from_length}
use Rattle.expression_lang.specs.CodeExpression.{exp_of}
use Rattle.expression_lang.specs.CodeSignature.{binder_of}
use Rattle.simpl_lang.specs.Command.{kind_of}
use Rattle.local_lift.proofs.ListLaws.{mapped_push}
use Rattle.local_lift.proofs.ZeroLaws.{ZerosSo, zeros_all, zeros_more}
use Rattle.local_lift.proofs.translation.zeros.Goals as goal

pub along-init : goal.along-init
along-init c = λ es z g. record { later = es; are = z; whole = ap (λ xs. map exp_of xs ++ es) c.new-exps.ensures.items }

pub along-preserved : goal.along-preserved
along-preserved c =
    let bs = map binder_of c.args.locals.now in
    let items : c.push.new.self.items ≡ c.along.exps.items ++ c.zero_of.result ∷ [] = search rules in
    let rest : c.along.rest.now ≡ c.in-Some.name.now ∷ c.in-Some.others.now = search rules in
    let named : c.as_str.result.now ≡ string_bytes c.in-Some.name.now = search rules in
    λ es z g. zeros_more bs (string_bytes c.in-Some.name.now) (map string_bytes c.in-Some.others.now) (map exp_of c.along.exps.items) (map exp_of c.push.new.self.items) es (exp_of c.zero_of.result) g
    (λ ys. ap (λ xs. map exp_of xs ++ ys) items ∙ mapped_push exp_of c.along.exps.items c.zero_of.result ys) (λ k e good. c.zero_of.ensures k (c.kind_in.ensures ∙ ap (kind_of bs) named ∙ e) good)
    (subst (λ ws. ZerosSo bs (map string_bytes ws) (map exp_of c.along.exps.items) es) rest (c.along.invariant es z g))

pub returns : goal.returns
returns c =
    let none : c.along.rest.now ≡ [] = nil_from_length c.along.rest.now c.in_default.ensures.cases in
    λ es z g. zeros_all (map binder_of c.args.locals.now) (map exp_of c.along.exps.items) es
    (subst (λ ws. ZerosSo (map binder_of c.args.locals.now) (map string_bytes ws) (map exp_of c.along.exps.items) es) none (c.along.invariant es z g))
