-- What is watched: the kinds of undefined behaviour of C (C99 3.4.3, cut to the subset), and two that a function's level adds.

pub data GuardKind : Type 0 where
  Div : GuardKind
  Signed : GuardKind
  Shift : GuardKind
  Pointer : GuardKind
  Bounds : GuardKind
  Unreached : GuardKind
  -- the last two are watched by a function's level alone
  Tag : GuardKind
  Wrap : GuardKind
