-- The C text of so many functions, of five shapes in turn, each with a constant of its own.
use Rattle.std.specs.Prelude.{ℕ, zero, suc, ◌+◌, ◌-◌, ◌*◌, ◌%◌, nat_eq, if◌then◌else◌, List, [], ◌++◌, codes}
use Rattle.std.specs.Fmt.{decimal}

-- the text of a number between two others
abbrev pub around : List ℕ → ℕ → List ℕ → List ℕ
around before k after = before ++ (decimal k ++ after)

abbrev pub constant : ℕ → ℕ
constant k = (k * k + 7 * k + 3) % 1000

abbrev pub with_constant : ℕ → List ℕ → List ℕ → List ℕ
with_constant k before after = around before (constant k) after

-- a function of the shape, behind its name
abbrev pub of_shape : ℕ → ℕ → List ℕ
of_shape shape k =
    if nat_eq shape 0 then with_constant k (codes "(unsigned a, unsigned b) { return a + b * ") (codes "u; }\n") else
    (if nat_eq shape 1 then with_constant k (codes "(int a, int b) { if (b == 0) return ") (codes "; return a / b; }\n") else
    (if nat_eq shape 2 then codes "(struct node *p) { unsigned n = 0; while (p) { n = n + p->v; p = p->next; } return n; }\n" else
    (if nat_eq shape 3 then with_constant k (codes "(unsigned *p, unsigned *q) { unsigned t = *p; *p = *q; *q = t + ") (codes "u; }\n") else
    around (codes "(unsigned a, unsigned b) { unsigned r; r = f") (k - 4) (codes "(a, b); return r; }\n"))))

-- what a function of the shape gives, and how its name begins
abbrev pub result_of : ℕ → List ℕ
result_of shape =
    if nat_eq shape 1 then codes "int f" else
    (if nat_eq shape 3 then codes "void f" else codes "unsigned f")

abbrev pub line : ℕ → List ℕ
line k = around (result_of (k % 5)) k (of_shape (k % 5) k)

-- so many lines from a number on
abbrev pub lines_from : ℕ → ℕ → List ℕ
lines_from k zero = []
lines_from k (suc n) = line k ++ lines_from (suc k) n

abbrev pub sample_text : ℕ → List ℕ
sample_text n = codes "struct node { unsigned v; struct node *next; };\n" ++ lines_from 0 n
