-- Locals lifted out of a flat command, with the names that each sequence and each loop hands on by what is live there.
use Rattle.std.specs.Prelude.{Bool, not, ◌&&◌, List, [], ◌∷◌, Some, None}
use Rattle.c_values.specs.Name.{Name, is_among}
use Rattle.expression_lang.specs.Signature.{Binder, names_of}
use Rattle.simpl_lang.specs.Command as C
use Rattle.simpl_lang.specs.Command.{Simpl, kind_of}
use Rattle.monad_lang.specs.Program as M
use Rattle.rule_local.specs.Assigned.{assigns}
use Rattle.rule_local.specs.Rule.{Context, Skip, Global, Memory, Pick, Cond, Guard, Call, Void}
use Rattle.rule_local.specs.Table.{vars, picked_kind}
use Rattle.rule_local.specs.Lifted.{Lifted, leaf, over_one, over_two, chosen, kind_there, set_lifted, seq_lifted, while_lifted, begun}
use Rattle.local_lift.specs.Live.{live}

abbrev pub among : List Name → Name → Bool
among vs y = is_among y vs

-- of these names, those that a command assigns and that are live after it
abbrev pub carried : List Name → Simpl → (Name → Bool) → List Name
carried xs a p = chosen (λ y. assigns y a && p y) xs

abbrev pub by_live : List Binder → Simpl → List Name → Lifted
by_live bs C.Skip vs = leaf Skip (M.Ret (vars vs))
by_live bs (C.Set x e) vs = set_lifted (is_among x vs) x e vs
by_live bs (C.SetGlobal x path e) vs = leaf Global (M.Bind (M.Write (M.Global x path) e) [] (M.Ret (vars vs)))
by_live bs (C.Store t p path e) vs = leaf Memory (M.Bind (M.Write (M.Stored t p path) e) [] (M.Ret (vars vs)))
by_live bs (C.Pick x) vs = leaf Pick (M.Bind (M.Pick (kind_there (picked_kind (kind_of bs x)))) (x ∷ []) (M.Ret (vars vs)))
by_live bs (C.Seq a b) vs = seq_lifted (carried (names_of bs) a (live (names_of bs) b (among vs))) (λ us. by_live bs a us) (by_live bs b vs)
by_live bs (C.Cond e a b) vs =
    let left = by_live bs a vs in
    let right = by_live bs b vs in over_two Cond (M.If e left.right right.right) left right
by_live bs (C.Guard g a) vs = let inner = by_live bs a vs in over_one Guard (M.Bind (M.Guard g.exp) [] inner.right) inner
by_live bs (C.While gs e a) vs = while_lifted gs e vs (carried (names_of bs) a (live (names_of bs) (C.While gs e a) (among vs))) (λ us. by_live bs a us)
by_live bs (C.Call (Some x) f es) vs = leaf Call (M.Bind (M.Call f es) (x ∷ []) (M.Ret (vars vs)))
by_live bs (C.Call None f es) vs = leaf Void (M.Bind (M.Call f es) [] (M.Ret (vars vs)))
by_live bs C.Throw vs = leaf Skip (M.Ret (vars vs))
by_live bs (C.Catch a b) vs = by_live bs a vs

-- the body of a function
abbrev pub whole_by_live : Context → Simpl → List Name → Lifted
whole_by_live ctx a vs =
    begun ctx (chosen (λ y. live (names_of ctx.locals) a (among vs) y && not (is_among y ctx.parameters)) (names_of ctx.locals)) (by_live ctx.locals a vs)
