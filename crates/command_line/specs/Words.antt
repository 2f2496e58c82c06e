-- The forms of words. A form is told by its first word and the number of words after it: file names are any words, so
-- `show target=lp64` shows the file of that name. Words of any other form are refused.
use Rattle.std.specs.Prelude.{ℕ, ◌+◌, ◌-◌, ◌*◌, Bool, false, not, ◌&&◌, ◌||◌, List, [], ◌∷◌, length, drop, nat_le, nat_eq, Option, Some, None, if◌then◌else◌, codes}
use Rattle.std.specs.List.{list_all, starts_with}
use Rattle.std.specs.Option.{option_map}
use Rattle.c_values.specs.Name.{Name, same_name, is_among}
use Rattle.c_values.specs.Types.{Target, Ilp32, Lp64}

-- how programs are written: as a tree, as lines for readers, or with all steps that lead to them
pub data Form : Type 0 where
  AsTree : Form
  AsLines : Form
  AsCertificate : Form

-- What is asked for. Options stand as they are.
pub data Command : Type 0 where
  -- `show`, `print` or `translate` of a file, with options
  Write : Form → Name → List Name → Command
  -- a file of C text and a certificate
  Check : Name → Name → Target → Command
  -- and a memory
  Run : Name → Name → Name → Target → Command
  -- and triples
  Prove : Name → Name → Name → Target → Command
  Sample : ℕ → Command
  Trial : ℕ → Target → Command

abbrev pub ilp32_word : Name
ilp32_word = codes "target=ilp32"

abbrev pub lp64_word : Name
lp64_word = codes "target=lp64"

abbrev pub is_target : Name → Bool
is_target w = same_name w ilp32_word || same_name w lp64_word

-- a name follows, whatever it is
abbrev pub is_option : Name → Bool
is_option w = starts_with nat_eq w (codes "bytes=") || starts_with nat_eq w (codes "words=") || is_target w

-- any number of them, in any order, but not two different targets
abbrev pub are_options : List Name → Bool
are_options ws = list_all is_option ws && not (is_among ilp32_word ws && is_among lp64_word ws)

-- the target of a word
abbrev pub target_named : Name → Option Target
target_named w = if same_name w ilp32_word then Some Ilp32 else (if same_name w lp64_word then Some Lp64 else None)

-- of no word more, or of a last one
abbrev pub last_target : List Name → Option Target
last_target [] = Some Ilp32
last_target (w ∷ []) = target_named w
last_target (w ∷ x ∷ ws) = None

abbrev pub is_digit : ℕ → Bool
is_digit c = nat_le 48 c && nat_le c 57

-- decimal digits, at most nine, without a leading zero unless it is `0`
abbrev pub is_count : Name → Bool
is_count [] = false
is_count (c ∷ cs) = list_all is_digit (c ∷ cs) && nat_le (length (c ∷ cs)) 9 && (not (nat_eq c 48) || nat_eq (length cs) 0)

-- the number that decimal digits write behind those of another one
abbrev pub with_digits : ℕ → List ℕ → ℕ
with_digits n [] = n
with_digits n (c ∷ cs) = with_digits (n * 10 + (c - 48)) cs

abbrev pub number_of : Name → ℕ
number_of w = with_digits 0 w

-- Each command, by the words behind its own.

abbrev pub write_of : Form → List Name → Option Command
write_of form [] = None
write_of form (file ∷ ws) = if are_options ws then Some (Write form file ws) else None

abbrev pub check_of : List Name → Option Command
check_of (file ∷ cert ∷ ws) = option_map (λ t. Check file cert t) (last_target ws)
check_of _ = None

abbrev pub three_files : List Name → Option (Name × Name × Name × Target)
three_files (file ∷ cert ∷ third ∷ ws) = option_map (λ t. (file, cert, third, t)) (last_target ws)
three_files _ = None

abbrev pub run_of : List Name → Option Command
run_of ws = option_map (λ f. Run f.0 f.1 f.2 f.3) (three_files ws)

abbrev pub prove_of : List Name → Option Command
prove_of ws = option_map (λ f. Prove f.0 f.1 f.2 f.3) (three_files ws)

abbrev pub sample_of : List Name → Option Command
sample_of (n ∷ []) = if is_count n then Some (Sample (number_of n)) else None
sample_of _ = None

abbrev pub trial_of : List Name → Option Command
trial_of [] = None
trial_of (n ∷ ws) = if is_count n then option_map (λ t. Trial (number_of n) t) (last_target ws) else None

abbrev pub command_by : Name → List Name → Option Command
command_by w ws =
    if same_name w (codes "show") then write_of AsTree ws else
    (if same_name w (codes "print") then write_of AsLines ws else
    (if same_name w (codes "translate") then write_of AsCertificate ws else
    (if same_name w (codes "check") then check_of ws else
    (if same_name w (codes "run") then run_of ws else
    (if same_name w (codes "prove") then prove_of ws else
    (if same_name w (codes "sample") then sample_of ws else
    (if same_name w (codes "trial") then trial_of ws else None)))))))

abbrev pub command_of : List Name → Option Command
command_of [] = None
command_of (w ∷ ws) = command_by w ws

-- Options

-- the target that options choose
abbrev pub target_of : List Name → Target
target_of ws = if is_among lp64_word ws then Lp64 else Ilp32

-- what follows such a beginning, of the words that have it
abbrev pub after_start : List ℕ → List Name → List Name
after_start start [] = []
after_start start (w ∷ ws) = if starts_with nat_eq w start then drop (length start) w ∷ after_start start ws else after_start start ws

-- the functions that options name for the level `bytes`, and for `words`
abbrev pub bytes_names : List Name → List Name
bytes_names ws = after_start (codes "bytes=") ws

abbrev pub words_names : List Name → List Name
words_names ws = after_start (codes "words=") ws

-- the function that an option names
abbrev pub named : Name → Option Name
named w = if starts_with nat_eq w (codes "bytes=") || starts_with nat_eq w (codes "words=") then Some (drop 6 w) else None

abbrev pub or_unknown : (Name → Bool) → Option Name → Option Name → Option Name
or_unknown is_there None later = later
or_unknown is_there (Some x) later = if is_there x then later else Some x

-- the first function that an option names, in the order of the words, which isn't there
abbrev pub first_unknown : (Name → Bool) → List Name → Option Name
first_unknown is_there [] = None
first_unknown is_there (w ∷ ws) = or_unknown is_there (named w) (first_unknown is_there ws)
