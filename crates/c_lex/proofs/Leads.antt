-- From one place of a text, what stands there leads to one end alone, and on.
use Rattle.std.proofs.Common.{◌≡◌, ℕ, ◌+◌, Bool, false, List, [], ◌∷◌, ◌++◌, ◌<◌, ◌≤◌, length, drop, Result, Ok, Err, IfOk, IfErr, MatchResult, Vec, Global, inl, inr, refl, sym, ap, ◌∙◌, subst, arith}
use Rattle.std.proofs.lemmas.List.{length-drop, at_drop_all}
use Rattle.c_lex.specs.declared.token.Token.{Token}
use Rattle.c_lex.specs.declared.fault.LexFault.{LexFault}
use Rattle.c_lex.specs.declared.fault.LexFault.TheVariants as fault
use Rattle.c_lex.specs.Answer.{Tells, IsFaultOf, IsRefused}
use Rattle.c_lex.proofs.FrontFits.{Fits, front_fits}
use Rattle.c_lex.proofs.GapReading.{gap_read, read_gap}
use Rattle.c_lex.proofs.Standing.{stands_read, read_stands}
use Rattle.c_lex.specs.Lexeme.{Kind, Lexeme, lexemes_of}
use Rattle.c_lex.specs.Front.{Front, ends, gap, holds, lacks, Cause, bad_byte, bad_number, open_comment, unsupported, long_name, front}
use Rattle.c_lex.specs.Tokens.{Place, past, Leads, here, past_gap, past_token, Tokens, FaultAt, start, Ascends}

-- what stands at a place of a text
abbrev pub front_at : List ℕ → Place → Front
front_at text p = front p.fresh (drop p.at text)

-- past the text there is nothing
pub front_past : (text : List ℕ) (at : ℕ) (fresh : Bool) → length text ≤ at → front fresh (drop at text) ≡ ends
unfolding front
front_past text at fresh h = at_drop_all (front fresh) text at h

-- one gap more
pub leads_gap : {text : List ℕ} {p q : Place} {ts : List Lexeme} {n : ℕ} {fresh : Bool} → Leads text p ts q → front_at text q ≡ gap n fresh → Leads text p ts (past q n fresh)
leads_gap {q = q} {n = n} {fresh = fresh} here e = past_gap (read_gap _ _ n fresh e) here
leads_gap (past_gap f l) e = past_gap f (leads_gap l e)
leads_gap (past_token f l) e = past_token f (leads_gap l e)

-- one token more
pub leads_token : {text : List ℕ} {p q : Place} {ts : List Lexeme} {kind : Kind} {n : ℕ} → Leads text p ts q → front_at text q ≡ holds kind n → Leads text p (ts ++ record { kind = kind; from = q.at; to = q.at + n } ∷ []) (past q n false)
leads_token {kind = kind} {n = n} here e = past_token (read_stands _ _ kind n e) here
leads_token (past_gap f l) e = past_gap f (leads_token l e)
leads_token (past_token f l) e = past_token f (leads_token l e)

-- nothing stands there that leads on
abbrev pub IsLast : Front → Type 0
IsLast ends = Unit {0}
IsLast (lacks cause) = Unit {0}
IsLast (gap n fresh) = ⊥
IsLast (holds kind n) = ⊥

abbrev pub SameEnd : List Lexeme → Place → List Lexeme → Place → Type 0
SameEnd ts q us r = (ts ≡ us) × (q ≡ r)

same_gap : {front : Front} {n m : ℕ} {a b : Bool} → front ≡ gap n a → front ≡ gap m b → (m ≡ n) × (b ≡ a)
same_gap e f = (cc, cc)

same_token : {front : Front} {k j : Kind} {n m : ℕ} → front ≡ holds k n → front ≡ holds j m → (j ≡ k) × (m ≡ n)
same_token e f = (cc, cc)

gap_or_token : {front : Front} {n m : ℕ} {a : Bool} {k : Kind} → front ≡ gap n a → front ≡ holds k m → ⊥
gap_or_token e f = absurd (cc)

pub same_end : {text : List ℕ} {p q r : Place} {ts us : List Lexeme} → Leads text p ts q → Leads text p us r → IsLast (front_at text q) → IsLast (front_at text r) → SameEnd ts q us r
same_end here here x y = (refl, refl)
same_end here (past_gap e m) x y = absurd (subst IsLast (gap_read e) x)
same_end {p = p} here (past_token e m) x y = absurd (subst IsLast (stands_read p.fresh _ _ _ e) x)
same_end (past_gap e l) here x y = absurd (subst IsLast (gap_read e) y)
same_end {p = p} (past_token e l) here x y = absurd (subst IsLast (stands_read p.fresh _ _ _ e) y)
same_end {text} {p} {q} {r} {ts} {us} (past_gap e l) (past_gap f m) x y =
    let same = same_gap (gap_read e) (gap_read f) in
    same_end l (subst (λ z. Leads text z us r) (λ i. past p (same.0 i) (same.1 i)) m) x y
same_end {p = p} (past_gap e l) (past_token f m) x y = absurd (gap_or_token (gap_read e) (stands_read p.fresh _ _ _ f))
same_end {p = p} (past_token e l) (past_gap f m) x y = absurd (gap_or_token (gap_read f) (stands_read p.fresh _ _ _ e))
same_end {text} {p} {q} {r} (past_token {ts = ts} e l) (past_token {ts = us} f m) x y =
    let same = same_token (stands_read p.fresh _ _ _ e) (stands_read p.fresh _ _ _ f) in
    let rest = same_end l (subst (λ z. Leads text z us r) (λ i. past p (same.1 i) false) m) x y in
    (λ i. record { kind = sym same.0 i; from = p.at; to = p.at + sym same.1 i } ∷ rest.0 i, rest.1)

-- past the last token there is nothing
past_all : (text : List ℕ) (ts : List Lexeme) (t : Tokens text ts) → front_at text t.place ≡ ends
past_all text ts t = front_past text t.place.at t.place.fresh t.whole

-- A text has one list of tokens, or one first fault, and never both.
pub one_list : (text : List ℕ) (ts us : List Lexeme) → Tokens text ts → Tokens text us → ts ≡ us
one_list text ts us a b = (same_end a.leads b.leads (subst IsLast (sym (past_all text ts a)) tt) (subst IsLast (sym (past_all text us b)) tt)).0

pub tokens_or_fault : (text : List ℕ) (ts : List Lexeme) (cause : Cause) (at : ℕ) → Tokens text ts → FaultAt text cause at → ⊥
tokens_or_fault text ts cause at a b =
    let same = (same_end a.leads b.leads (subst IsLast (sym (past_all text ts a)) tt) (subst IsLast (sym b.fault) tt)).1 in
    let whole = past_all text ts a in
    let fault = b.fault in
    let moved : front_at text a.place ≡ lacks cause = ap (front_at text) same ∙ fault in
    absurd (cc)

pub one_fault : (text : List ℕ) (cause other : Cause) (at to : ℕ) → FaultAt text cause at → FaultAt text other to → (cause ≡ other) × (at ≡ to)
one_fault text cause other at to a b =
    let same = (same_end a.leads b.leads (subst IsLast (sym a.fault) tt) (subst IsLast (sym b.fault) tt)).1 in
    let fault = a.fault in
    let moved : front_at text a.place ≡ lacks other = ap (front_at text) same ∙ b.fault in
    (cc, sym a.here ∙ ap (λ (p : Place). p.at) same ∙ b.here)

-- a fault at a place that the text leads to is the first
pub first_fault : (text : List ℕ) (ts : List Lexeme) (p : Place) (e : LexFault) → Leads text start ts p → Tells e (λ cause i. (i ≡ p.at) × (front_at text p ≡ lacks cause)) → Tells e (FaultAt text)
first_fault text ts p (fault.BadByte at) l h = record { before = ts; place = p; leads = l; here = sym h.0; fault = h.1 }
first_fault text ts p (fault.BadNumber at) l h = record { before = ts; place = p; leads = l; here = sym h.0; fault = h.1 }
first_fault text ts p (fault.OpenComment at) l h = record { before = ts; place = p; leads = l; here = sym h.0; fault = h.1 }
first_fault text ts p (fault.Unsupported u at) l h = record { before = ts; place = p; leads = l; here = sym h.0; fault = h.1 }
first_fault text ts p (fault.LongName at) l h = record { before = ts; place = p; leads = l; here = sym h.0; fault = h.1 }
first_fault text ts p fault.Memory l h = tt

-- what stands at a place of the text takes one byte at least, and ends in the text
pub gap_fits : (text : List ℕ) (p : Place) (n : ℕ) (fresh : Bool) → p.at ≤ length text → front_at text p ≡ gap n fresh → (0 < n) × (p.at + n ≤ length text)
gap_fits text p n fresh h e =
    let fits = subst (Fits (length (drop p.at text))) e (front_fits p.fresh (drop p.at text)) in
    let rest = length-drop p.at text in
    (fits.0, omega (arith, fits.1))

pub token_fits : (text : List ℕ) (p : Place) (kind : Kind) (n : ℕ) → p.at ≤ length text → front_at text p ≡ holds kind n → (0 < n) × (p.at + n ≤ length text)
token_fits text p kind n h e =
    let fits = subst (Fits (length (drop p.at text))) e (front_fits p.fresh (drop p.at text)) in
    let rest = length-drop p.at text in
    (fits.0, omega (arith, fits.1))

earlier : (at to end : ℕ) (ts : List Lexeme) → at ≤ to → Ascends to end ts → Ascends at end ts
earlier at to end [] h a = omega arith
earlier at to end (t ∷ ts) h a = (omega (arith, a.0), a.1, a.2)

pub ascend : {text : List ℕ} {p q : Place} {ts : List Lexeme} → Leads text p ts q → p.at ≤ length text → Ascends p.at (length text) ts
ascend here h = h
ascend {text} {p} {q} {ts} (past_gap {n = n} {fresh = fresh} e l) h =
    let fits = gap_fits text p n fresh h (gap_read e) in
    earlier p.at (p.at + n) (length text) ts (omega arith) (ascend l fits.1)
ascend {text} {p} (past_token {kind = kind} {n = n} e l) h =
    let fits = token_fits text p kind n h (stands_read p.fresh (drop p.at text) kind n e) in
    (omega arith, omega arith, ascend l fits.1)

-- the spans of a text's tokens ascend
pub spans_ascend : (text : List ℕ) (ts : List Lexeme) → Tokens text ts → Ascends 0 (length text) ts
spans_ascend text ts t = ascend t.leads (omega arith)

-- what the answer is, from what it is of the text
pub tokens_are_told : (text : List ℕ) (r : Result (Vec Token Global) LexFault) → IfOk r (λ v. Tokens text (lexemes_of v.items)) → IfErr r (IsFaultOf text) → (ts : List Lexeme) → Tokens text ts → MatchResult r (λ v. lexemes_of v.items ≡ ts) (λ e. e ≡ fault.Memory)
tokens_are_told text (Ok v) found told ts t = one_list text (lexemes_of v.items) ts found t
tokens_are_told text (Err (fault.BadByte at)) found told ts t = absurd (tokens_or_fault text ts bad_byte at t told)
tokens_are_told text (Err (fault.BadNumber at)) found told ts t = absurd (tokens_or_fault text ts bad_number at t told)
tokens_are_told text (Err (fault.OpenComment at)) found told ts t = absurd (tokens_or_fault text ts open_comment at t told)
tokens_are_told text (Err (fault.Unsupported u at)) found told ts t = absurd (tokens_or_fault text ts (unsupported u) at t told)
tokens_are_told text (Err (fault.LongName at)) found told ts t = absurd (tokens_or_fault text ts long_name at t told)
tokens_are_told text (Err fault.Memory) found told ts t = refl

-- the fault of a cause
abbrev pub fault_of : Cause → ℕ → LexFault
fault_of bad_byte at = fault.BadByte at
fault_of bad_number at = fault.BadNumber at
fault_of open_comment at = fault.OpenComment at
fault_of (unsupported u) at = fault.Unsupported u at
fault_of long_name at = fault.LongName at

same_fault : (text : List ℕ) (c d : Cause) (at to : ℕ) → FaultAt text c at → FaultAt text d to → fault_of c at ≡ fault_of d to
same_fault text c d at to a b = let same = one_fault text c d at to a b in λ i. fault_of (same.0 i) (same.1 i)

pub fault_is_told : (text : List ℕ) (r : Result (Vec Token Global) LexFault) → IfOk r (λ v. Tokens text (lexemes_of v.items)) → IfErr r (IsFaultOf text) → (c : Cause) (at : ℕ) → FaultAt text c at → IsRefused r (fault_of c at)
fault_is_told text (Ok v) found told c at f = tokens_or_fault text (lexemes_of v.items) c at found f
fault_is_told text (Err (fault.BadByte to)) found told c at f = inl (same_fault text bad_byte c to at told f)
fault_is_told text (Err (fault.BadNumber to)) found told c at f = inl (same_fault text bad_number c to at told f)
fault_is_told text (Err (fault.OpenComment to)) found told c at f = inl (same_fault text open_comment c to at told f)
fault_is_told text (Err (fault.Unsupported u to)) found told c at f = inl (same_fault text (unsupported u) c to at told f)
fault_is_told text (Err (fault.LongName to)) found told c at f = inl (same_fault text long_name c to at told f)
fault_is_told text (Err fault.Memory) found told c at f = inr refl
