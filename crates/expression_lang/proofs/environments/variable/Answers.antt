-- The value of the last of the names that are left.
use Rattle.std.proofs.Common.{◌≡◌, ◌-◌, ◌∙◌, true, false, take, ap, sym, subst, arith}
use Rattle.std.proofs.lemmas.Bool.{cond-true, cond-false}
use Rattle.std.specs.Prelude.{string_bytes}
use Rattle.c_values.specs.Name.{same_name}
use Rattle.c_values.specs.CodeValue.{value_of}
use Rattle.c_values.specs.CodeParts.{has_parts}
use Rattle.expression_lang.specs.CodeState.{env_of}
use Rattle.expression_lang.proofs.NamesFound.{named_here}
use Rattle.expression_lang.proofs.environments.variable.Goals as goal

found : (c : goal.Then-eq) → value_of c.index.result.now.1 ≡ env_of c.args.env.now.items c.args.name.now
found c =
    let x = c.args.name.now in
    let b = c.index.result.now in
    let same : same_name (string_bytes b.0) x ≡ true = ap (λ n. same_name n x) (sym c.as_str.ensures.value) ∙ sym c.eq.ensures ∙ c.if-eq.true in
    sym (cond-true (same_name (string_bytes b.0) x) (value_of b.1) (env_of (take (c.names.k - 1) c.args.env.now.items) x) same)
    ∙ sym (named_here c.args.env.now.items c.names.k b x (omega arith) (omega arith) c.index.ensures)
    ∙ c.names.invariant.same

pub scalar-requires : goal.scalar-requires
scalar-requires c = subst (λ v. has_parts v ≡ false) (sym (found c)) c.requires

pub returns-then-eq : goal.returns-then-eq
returns-then-eq c =
    let x = c.args.name.now in
    let b = c.index.result.now in
    let same : same_name (string_bytes b.0) x ≡ true = ap (λ n. same_name n x) (sym c.as_str.ensures.value) ∙ sym c.eq.ensures ∙ c.if-eq.true in
    c.scalar.ensures
    ∙ sym (cond-true (same_name (string_bytes b.0) x) (value_of b.1) (env_of (take (c.names.k - 1) c.args.env.now.items) x) same)
    ∙ sym (named_here c.args.env.now.items c.names.k b x (omega arith) (omega arith) c.index.ensures)
    ∙ c.names.invariant.same

pub names-preserved : goal.names-preserved
names-preserved c =
    let x = c.args.name.now in
    let b = c.index.result.now in
    let other : same_name (string_bytes b.0) x ≡ false = ap (λ n. same_name n x) (sym c.as_str.ensures.value) ∙ sym c.eq.ensures ∙ c.if-eq.false in
    record {
      within = omega arith;
      same =
          sym (cond-false (same_name (string_bytes b.0) x) (value_of b.1) (env_of (take (c.names.k - 1) c.args.env.now.items) x) other)
          ∙ sym (named_here c.args.env.now.items c.names.k b x (omega arith) (omega arith) c.index.ensures)
          ∙ c.names.invariant.same;
    }
