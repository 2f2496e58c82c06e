-- The left side is well-sorted where the kernel looks at it, and names are at kinds that are.
use Rattle.std.proofs.Common.{◌≡◌, List, [], map, ap, ◌∙◌}
use Rattle.c_values.specs.CodeValue.{global_of}
use Rattle.expression_lang.specs.declared.signatures.Binder as B
use Rattle.expression_lang.specs.Signature.{Binder, names_of, kinds_of}
use Rattle.expression_lang.specs.CodeSignature.{binder_of, signature_of}
use Rattle.simpl_lang.specs.CodeCommand.{simpl_unit_of}
use Rattle.monad_lang.specs.CodeProgram.{mon_of}
use Rattle.rule_word.specs.declared.kinds.Kinds as K
use Rattle.rule_word.specs.CodeKinds.{binders_in}
use Rattle.rule_word.specs.Scopes.{with_kinds}
use Rattle.acceptance.proofs.OnWords.{given_there, kinds_there}
use Rattle.acceptance.proofs.steps.words_taken.Goals as goal

-- the parameters are in scope, and nothing else
in_scope : (none kinds : K.Kinds) (params items : List B.Binder) →
    binders_in kinds ≡ with_kinds (names_of (map binder_of params)) (kinds_of (map binder_of params)) (binders_in none) →
    params ≡ items → binders_in none ≡ [] →
    binders_in kinds ≡ with_kinds (names_of (map binder_of items)) (kinds_of (map binder_of items)) []
in_scope none kinds params items p q r =
    p
    ∙ ap (λ (bs : List B.Binder). with_kinds (names_of (map binder_of bs)) (kinds_of (map binder_of bs)) (binders_in none)) q
    ∙ ap (λ (bs : List Binder). with_kinds (names_of (map binder_of items)) (kinds_of (map binder_of items)) bs) r

pub check-requires-clause-sorted : goal.check-requires-clause-sorted
check-requires-clause-sorted c =
    given_there (simpl_unit_of c.args.u.now) (signature_of c.args.s.now) (mon_of c.args.left.now)
    (map global_of c.deref-3.result.now) (map signature_of c.deref-4.result.now) (binders_in c.push_all-kinds.result)
    (ap (map global_of) c.deref-3.ensures.value) (ap (map signature_of) c.deref-4.ensures.value)
    (in_scope c.new-none.result c.push_all-kinds.result c.deref-2.result.now c.args.s.now.params.items c.push_all-kinds.ensures
    c.deref-2.ensures.value c.new-none.ensures)
    c.requires.sorted

pub check-requires-clause-kinds : goal.check-requires-clause-kinds
check-requires-clause-kinds c =
    kinds_there (map binder_of c.args.s.now.params.items) (binders_in c.push_all-kinds.result)
    (in_scope c.new-none.result c.push_all-kinds.result c.deref-2.result.now c.args.s.now.params.items c.push_all-kinds.ensures
    c.deref-2.ensures.value c.new-none.ensures)
    c.requires.kinds

pub check-requires-in-Some-clause-sorted : goal.check-requires-in-Some-clause-sorted
check-requires-in-Some-clause-sorted c =
    given_there (simpl_unit_of c.args.u.now) (signature_of c.args.s.now) (mon_of c.args.left.now)
    (map global_of c.deref-3.result.now) (map signature_of c.deref-4.result.now) (binders_in c.push_all-kinds.result)
    (ap (map global_of) c.deref-3.ensures.value) (ap (map signature_of) c.deref-4.ensures.value)
    (in_scope c.new-none.result c.push_all-kinds.result c.deref-2.result.now c.args.s.now.params.items c.push_all-kinds.ensures
    c.deref-2.ensures.value c.new-none.ensures)
    c.requires.sorted

pub check-requires-in-Some-clause-kinds : goal.check-requires-in-Some-clause-kinds
check-requires-in-Some-clause-kinds c =
    kinds_there (map binder_of c.args.s.now.params.items) (binders_in c.push_all-kinds.result)
    (in_scope c.new-none.result c.push_all-kinds.result c.deref-2.result.now c.args.s.now.params.items c.push_all-kinds.ensures
    c.deref-2.ensures.value c.new-none.ensures)
    c.requires.kinds
