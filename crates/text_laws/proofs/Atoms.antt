-- Names, numbers and the words of heads can be atoms.

-- Bytes

-- Names

-- Numbers
