-- The numbers of the calls, the switches and the do-whiles of a body, each in the order of the text. Each is the number of one
-- statement of its kind alone.
use Rattle.std.specs.Prelude.{ℕ, ◌==◌, ◌^◌, nat_lt, Bool, true, not, ◌&&◌, List, [], ◌∷◌, ◌++◌}
use Rattle.std.specs.List.{list_any}
use Rattle.c_lang.specs.Typed as C

pub record Numbers : Type 0 where
  pub calls : List ℕ
  pub switches : List ℕ
  pub do_whiles : List ℕ

abbrev pub no_numbers : Numbers
no_numbers = record { calls = []; switches = []; do_whiles = [] }

abbrev pub call_number : ℕ → Numbers
call_number n = record no_numbers { calls = n ∷ [] }

abbrev pub switch_number : ℕ → Numbers
switch_number n = record no_numbers { switches = n ∷ [] }

abbrev pub do_while_number : ℕ → Numbers
do_while_number n = record no_numbers { do_whiles = n ∷ [] }

-- those of one part, and then those of another
abbrev pub joined : Numbers → Numbers → Numbers
joined a b = record { calls = a.calls ++ b.calls; switches = a.switches ++ b.switches; do_whiles = a.do_whiles ++ b.do_whiles }

abbrev mutual
  pub numbers_of : C.Statement → Numbers
  numbers_of C.Empty = no_numbers
  numbers_of (C.Block ss) = numbers_in ss
  numbers_of (C.Declare x t) = no_numbers
  numbers_of (C.Assign target e) = no_numbers
  numbers_of (C.Call n f es use') = call_number n
  numbers_of (C.If e a b) = joined (numbers_of a) (numbers_of b)
  numbers_of (C.While e a) = numbers_of a
  numbers_of (C.DoWhile n a e) = joined (do_while_number n) (numbers_of a)
  numbers_of (C.For init test step a) = joined (numbers_in init) (joined (numbers_of step) (numbers_of a))
  numbers_of (C.Switch n i e gs) = joined (switch_number n) (numbers_among gs)
  numbers_of C.Break = no_numbers
  numbers_of C.Continue = no_numbers
  numbers_of C.ReturnNothing = no_numbers
  numbers_of (C.Return e) = no_numbers

  pub numbers_in : C.Statements → Numbers
  numbers_in C.no_statements = no_numbers
  numbers_in (C.next s ss) = joined (numbers_of s) (numbers_in ss)

  pub numbers_among : C.Groups → Numbers
  numbers_among C.no_groups = no_numbers
  numbers_among (C.group labels is_default ss gs) = joined (numbers_in ss) (numbers_among gs)

-- different ones, of 64 bits
abbrev pub are_apart : List ℕ → Bool
are_apart [] = true
are_apart (n ∷ ns) = nat_lt n (2 ^ 64) && not (list_any (λ k. k == n) ns) && are_apart ns

abbrev pub are_numbers : Numbers → Bool
are_numbers n = are_apart n.calls && are_apart n.switches && are_apart n.do_whiles
