-- How the answers of parts make the answer of a whole: the first bad part decides, and behind the good ones comes the rest.
use Rattle.std.proofs.Common.{◌≡◌, ℕ, List, [], ◌∷◌, ◌++◌, refl, sym, ap, ◌∙◌, subst, append_assoc}
use Rattle.std.specs.Prelude.{Result, Ok, Err, IsErrAnd, MatchResult}
use Rattle.typing_rules.specs.declared.fault.TypeFault.{TypeFault}
use Rattle.typing_rules.specs.declared.fault.TypeFault.TheVariants.{Bad as BadNode, Memory}
use Rattle.typing_rules.specs.declared.rulings.Refusal.{Refusal}
use Rattle.typing_rules.specs.declared.rulings.Refusal.TheVariants.{Kind, Memory as NoMemory}
use Rattle.typing_rules.specs.CodeAnswers.{Answers, IsFaultOf, IsRefusalOf, RulesAs, fault_at}
use Rattle.typing_rules.specs.Checked.{Checked, Good, Bad, Judgement, Ruling, pure, changed, in_block, ruled, then, ◌>>=◌}
use Rattle.typing_rules.specs.Scope.{Scope, opened, closed}
use Rattle.typing_expressions.specs.CodeBehind.{behind}

-- behind a good part
pub behind_good : {A B : Type 0} (c : Checked (A × Scope)) (a : A) (s : Scope) (f : A → Judgement B) → c ≡ Good (a, s) → then c f ≡ f a s
behind_good c a s f h = ap (λ d. then d f) h

-- a part's fault is that of the whole
pub fault_first : {A B : Type 0} (e : TypeFault) (c : Checked (A × Scope)) (f : A → Judgement B) → IsFaultOf e c → IsFaultOf e (then c f)
fault_first (BadNode at kind) c f h = ap (λ d. then d f) h
fault_first Memory c f h = tt

-- a fault of what is equal
pub fault_along : {A : Type 0} (e : TypeFault) (c d : Checked A) → c ≡ d → IsFaultOf e d → IsFaultOf e c
fault_along (BadNode at kind) c d h k = h ∙ k
fault_along Memory c d h k = tt

-- a node by its rule
pub node_good : {T A : Type 0} (view : T → A) (at : ℕ) (s : Scope) (answer : Result T Refusal) (v : T) (r : Ruling A) → RulesAs view answer r → answer ≡ Ok v → ruled at s r ≡ Good (view v, s)
node_good view at s answer v r h e = let k : RulesAs view (Ok v) r = subst (λ x. RulesAs view x r) e h in ap (ruled at s) k

node_refused : {A : Type 0} (at : ℕ) (s : Scope) (e : Refusal) (r : Ruling A) → IsRefusalOf e r → IsFaultOf (fault_at at e) (ruled at s r)
node_refused at s (Kind kind) r h = ap (ruled at s) h
node_refused at s NoMemory r h = tt

pub node_bad : {T A : Type 0} (view : T → A) (at : ℕ) (s : Scope) (answer : Result T Refusal) (fault : TypeFault) (r : Ruling A) → RulesAs view answer r → IsErrAnd answer (λ e. fault ≡ fault_at at e) → IsFaultOf fault (ruled at s r)
node_bad view at s (Ok v) fault r h k = elim k [ ]
node_bad view at s (Err e) fault r h k = subst (λ x. IsFaultOf x (ruled at s r)) (sym k) (node_refused at s e r h)

-- the whole is answered as what comes behind a good part
pub answers_behind : {T A B : Type 0} (view : T → B) (t : Scope) (result : Result T TypeFault) (c : Checked (A × Scope)) (a : A) (s : Scope) (f : A → Judgement B) → c ≡ Good (a, s) → Answers view t result (f a s) → Answers view t result (then c f)
answers_behind view t (Ok v) c a s f h k = behind_good c a s f h ∙ k
answers_behind view t (Err e) c a s f h k = fault_along e (then c f) (f a s) (behind_good c a s f h) k

-- a node's answer is its rule's
pub node_answers : {T A : Type 0} (view : T → A) (at : ℕ) (s : Scope) (answer : Result T Refusal) (result : Result T TypeFault) (r : Ruling A) → RulesAs view answer r → MatchResult result (λ v. answer ≡ Ok v) (λ fault. IsErrAnd answer (λ e. fault ≡ fault_at at e)) → Answers view s result (ruled at s r)
node_answers view at s answer (Ok v) r h k = node_good view at s answer v r h k
node_answers view at s answer (Err e) r h k = node_bad view at s answer e r h k

-- what is found behind what is there, and then more of it
rest_behind : {A : Type 0} (before found : List A) (c : Checked (List A × Scope)) → then (then c (λ ys s. Good (found ++ ys, s))) (λ ys s. Good (before ++ ys, s)) ≡ then c (λ ys s. Good ((before ++ found) ++ ys, s))
rest_behind before found (Good p) = ap (λ ys. Good (ys, p.1)) (sym (append_assoc before found p.0))
rest_behind before found (Bad at kind) = refl

pub part_behind : {A : Type 0} (before found : List A) (j k : Judgement (List A)) (s t : Scope) → behind before j s ≡ Good (found, t) → behind before (j >>= λ xs. k >>= λ ys. pure (xs ++ ys)) s ≡ behind found k t
part_behind {A = A} before found j k s t = by_cases (j s)
  where
    by_cases : (c : Checked (List A × Scope)) → then c (λ ys u. Good (before ++ ys, u)) ≡ Good (found, t) → then (then c (λ xs. k >>= λ ys. pure (xs ++ ys))) (λ ys u. Good (before ++ ys, u)) ≡ behind found k t
    by_cases (Good p) h =
        let same : (before ++ p.0, p.1) ≡ (found, t) = cc in
        rest_behind before p.0 (k p.1) ∙ ap (λ (q : List A × Scope). behind q.0 k q.1) same
    by_cases (Bad at kind) h = cc

pub fault_behind : {A : Type 0} (e : TypeFault) (before : List A) (j : Judgement (List A)) (f : List A → Judgement (List A)) (s : Scope) → IsFaultOf e (behind before j s) → IsFaultOf e (behind before (j >>= f) s)
fault_behind {A = A} (BadNode at kind) before j f s = by_cases (j s)
  where
    by_cases : (c : Checked (List A × Scope)) → then c (λ ys u. Good (before ++ ys, u)) ≡ Bad at kind → then (then c f) (λ ys u. Good (before ++ ys, u)) ≡ Bad at kind
    by_cases (Good p) h = cc
    by_cases (Bad k kind') h = h
fault_behind Memory before j f s = λ h. tt

-- one more behind what is there
pub one_behind : {A : Type 0} (before : List A) (x : A) (j : Judgement A) (k : Judgement (List A)) (s t : Scope) → j s ≡ Good (x, t) → behind before (j >>= λ y. k >>= λ ys. pure (y ∷ ys)) s ≡ behind (before ++ (x ∷ [])) k t
one_behind before x j k s t h =
    ap (λ c. then (then c (λ y. k >>= λ ys. pure (y ∷ ys))) (λ ys u. Good (before ++ ys, u))) h ∙ rest_behind before (x ∷ []) (k t)

-- a block of its own
pub block_good : {A : Type 0} (j : Judgement A) (s o t u : Scope) (a : A) → o ≡ opened s → j o ≡ Good (a, t) → u ≡ closed t → in_block j s ≡ Good (a, u)
block_good j s o t u a begins h ends =
    ap (λ x. then (j x) (λ b. changed closed b)) (sym begins) ∙ ap (λ c. then c (λ b. changed closed b)) h ∙ ap (λ x. Good (a, x)) (sym ends)

pub block_fault : {A : Type 0} (e : TypeFault) (j : Judgement A) (s o : Scope) → o ≡ opened s → IsFaultOf e (j o) → IsFaultOf e (in_block j s)
block_fault (BadNode at kind) j s o begins h = ap (λ x. then (j x) (λ b. changed closed b)) (sym begins) ∙ ap (λ c. then c (λ b. changed closed b)) h
block_fault Memory j s o begins h = tt
