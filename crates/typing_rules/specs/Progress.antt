-- What a function's text has numbered and named so far. Calls, switches and do-whiles have numbers from 1 on, each in the order
-- of the text; the k-th parameter or local of one name has a name of its own for each k.
use Rattle.std.specs.Prelude.{ℕ, suc, ◌+◌, ◌==◌, if◌then◌else◌, List, [], ◌∷◌, ◌++◌, count_by, codes}
use Rattle.std.specs.Fmt.{decimal}
use Rattle.c_values.specs.Name.{Name, same_name}
use Rattle.c_values.specs.Types.{CType}
use Rattle.c_lang.specs.Typed.{Variable}

pub record Progress : Type 0 where
  -- the number of the last one
  pub calls : ℕ
  pub switches : ℕ
  pub do_whiles : ℕ
  -- the names of its parameters and locals as the text has them, once for each declaration
  pub declared : List Name
  -- its locals by their own names, in the order of the text
  pub locals : List Variable

abbrev pub at_start : List Name → Progress
at_start params = record { calls = 0; switches = 0; do_whiles = 0; declared = params; locals = [] }

-- the name of a variable that k others of the name stand before; no name of the text has a `$`
abbrev pub numbered : Name → ℕ → Name
numbered x k = if k == 0 then x else x ++ codes "$" ++ decimal (k + 1)

abbrev pub own_name : Progress → Name → Name
own_name p x = numbered x (count_by (λ y. same_name y x) p.declared)

-- one local more, by its own name and that of the text
abbrev pub with_local : Name → Name → CType → Progress → Progress
with_local own x t p =
    record p { declared = p.declared ++ x ∷ []; locals = p.locals ++ record { name = own; type = t } ∷ [] }

abbrev pub next_call : Progress → Progress
next_call p = record p { calls = suc p.calls }

abbrev pub next_switch : Progress → Progress
next_switch p = record p { switches = suc p.switches }

abbrev pub next_do_while : Progress → Progress
next_do_while p = record p { do_whiles = suc p.do_whiles }
