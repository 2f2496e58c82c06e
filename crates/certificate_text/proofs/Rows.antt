-- Texts of certificates, read: which node is bad.
use Rattle.std.proofs.Common.{◌≡◌, [], Ok, Err, refl}
use Rattle.std.specs.Prelude.{codes}
use Rattle.c_values.specs.Types.{Lp64}
use Rattle.ac_sx.specs.Tree.{Tree, Trees, Atom, Node, no_trees, more}
use Rattle.certificate_text.specs.CertificateText.{One, Two}
use Rattle.certificate_text.specs.CertificateReading.{certificate_at}

abbrev one : Tree → Trees
one t = more t no_trees

abbrev two : Tree → Tree → Trees
two t u = more t (one u)

abbrev cert : Trees → Tree
cert ts = Node (more (Atom (codes "cert")) ts)

abbrev first : Tree
first = Atom (codes "1")

abbrev second : Tree
second = Atom (codes "2")

abbrev x : Tree
x = Atom (codes "x")

-- (cert 1) and (cert 2 lp64)
pub no_functions : certificate_at 0 (cert (one first)) ≡ Ok (record { version = One; functions = [] }, 3)
no_functions = refl

pub no_functions_for_a_target : certificate_at 0 (cert (two second (Atom (codes "lp64")))) ≡ Ok (record { version = Two Lp64; functions = [] }, 4)
no_functions_for_a_target = refl

-- (cert), (cert 2), (cert 3), (cert (1)) and (cert 2 x)
pub no_version : certificate_at 0 (cert no_trees) ≡ Err 0
no_version = refl

pub no_target : certificate_at 0 (cert (one second)) ≡ Err 0
no_target = refl

pub another_version : certificate_at 0 (cert (one (Atom (codes "3")))) ≡ Err 2
another_version = refl

pub a_list_for_a_version : certificate_at 0 (cert (one (Node (one first)))) ≡ Err 2
a_list_for_a_version = refl

pub another_target : certificate_at 0 (cert (two second x)) ≡ Err 3
another_target = refl

-- (cert 1 (fun f LEVEL x x x ..)), with so many steps
abbrev function : Tree → Trees → Tree
function level steps = cert (two first (Node (more (Atom (codes "fun")) (more (Atom (codes "f")) (more level steps)))))

abbrev three : Trees
three = more x (two x x)

pub too_few_steps : certificate_at 0 (function (Atom (codes "numbers")) (more x three)) ≡ Err 3
too_few_steps = refl

pub too_many_steps : certificate_at 0 (function (Atom (codes "bytes")) (more x (more x three))) ≡ Err 3
too_many_steps = refl

pub a_bad_step : certificate_at 0 (function (Atom (codes "bytes")) (more x three)) ≡ Err 7
a_bad_step = refl

pub an_unknown_level : certificate_at 0 (function x (more x three)) ≡ Err 6
an_unknown_level = refl

pub an_unknown_level_of_five : certificate_at 0 (function x (more x (more x three))) ≡ Err 6
an_unknown_level_of_five = refl

pub an_unknown_level_of_three : certificate_at 0 (function x three) ≡ Err 3
an_unknown_level_of_three = refl
