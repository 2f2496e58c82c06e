-- Values that are put in, as the code takes them.
use Rattle.std.specs.Prelude.{ℕ, zero, ◌+◌, List, [], ◌∷◌, ◌++◌, Option, Some, None, if◌then◌else◌}
use Rattle.std.specs.Option.{option_map}
use Rattle.c_values.specs.Name.{Name}
use Rattle.expression_lang.specs.Expression.{Exp}
use Rattle.monad_lang.specs.Program as M
use Rattle.monad_lang.specs.Program.{Mon}
use Rattle.monad_lang.specs.Form.{can_be_put}
use Rattle.program_facts.specs.Substituted.{program_substituted}
use Rattle.rule_eq.specs.Table.{Taken, taken_at, with_values}
use Rattle.polish.specs.Polished.{one_later}

abbrev pub with_taken : Mon → Taken → Mon
with_taken n k = with_values k.exps k.names (program_substituted k.name k.exp n)

-- the sequence with the value at the position put in
abbrev pub put_into : ℕ → Mon → List Name → Mon → Option Mon
put_into i (M.Ret es) xs n = option_map (λ k. with_taken n k) (taken_at i es xs)
put_into i m xs n = None

abbrev pub put_later : ℕ → Option ℕ → Option ℕ
put_later k None = None
put_later k (Some i) = Some (k + i)

abbrev pub put_behind : List Name → List Exp → List Name → Mon → Option ℕ
put_behind before (e ∷ es) (x ∷ xs) n =
    if can_be_put e x (before ++ xs) n then Some zero else one_later (put_behind (before ++ x ∷ []) es xs n)
put_behind before es xs n = None

-- with these before the others
abbrev pub passed_over : List Exp → List Name → Option Taken → Option Taken
passed_over es xs None = None
passed_over es xs (Some k) = Some (record { exp = k.exp; name = k.name; exps = es ++ k.exps; names = xs ++ k.names })
