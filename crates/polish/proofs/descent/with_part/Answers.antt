-- The part stands behind those that were passed.
use Rattle.std.proofs.Common.{◌≡◌, [], ◌∷◌, ◌++◌, map, string_bytes, subst}
use Rattle.monad_lang.specs.CodeProgram.{mon_of}
use Rattle.polish.specs.CodeDescent.{setting_past, kept_names, given_names}
use Rattle.polish.proofs.Deeper.{one_deeper}
use Rattle.polish.proofs.Outcomes.{ok_both}
use Rattle.polish.proofs.descent.with_part.Goals as goal

pub returns : goal.returns
returns c =
    ok_both c.entered.result (λ new. new.levels.items ≡ c.args.down.levels.items ++ c.args.level ∷ [])
    (λ new. new.parts.items ≡ c.args.down.parts.items ++ c.in_ok-part.part ∷ []) _
    (λ new f g.
    one_deeper c.args.unit c.args.scope.now c.args.down new c.args.level c.in_ok-part.part (mon_of c.args.first.now)
    (map string_bytes c.args.names.now) c.requires f g c.in_ok-part.ensures.first c.in_ok-part.ensures.names
    (subst
    (λ ps. kept_names (setting_past c.args.unit c.args.scope.now ps) c.in_ok-part.part
    ≡ given_names (setting_past c.args.unit c.args.scope.now ps) c.in_ok-part.part) c.deref.ensures.value
    c.in_ok-part.ensures.told)) c.entered.ensures.levels c.entered.ensures.parts
