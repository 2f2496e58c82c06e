-- None so far has the name.
use Rattle.std.proofs.Common.{◌≡◌, map, drop}
use Rattle.expression_lang.specs.CodeSignature.{binder_of}
use Rattle.simpl_lang.specs.Command.{kind_of}
use Rattle.simpl_lang.proofs.locals.kind_in.Given as goal

abbrev pub invariant-binders : goal.invariant-binders
invariant-binders l = kind_of (map binder_of (drop l.binder-index l.binders)) l.name ≡ kind_of (map binder_of l.binders) l.name
