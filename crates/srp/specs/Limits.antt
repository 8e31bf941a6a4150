-- Document 01's limits, and document 02's of jobs 6 and 8, each in one place.
use Rattle.std.specs.Prelude.{ℕ}

-- a lent message buffer has at least this; so long is the longest message that the port writes
abbrev pub buffer_size : ℕ
buffer_size = 132

-- look's and the cut's answer in C has so many bytes
abbrev pub answer_size : ℕ
answer_size = 32

-- N and W are 1 to this; so many records has a lent list
abbrev pub most_buffers : ℕ
most_buffers = 16

-- the line has at most this many moves, two of each command
abbrev pub most_moves : ℕ
most_moves = 32

-- M is 1 to this
abbrev pub largest_piece : ℕ
largest_piece = 1048576

-- Q is 0, or 2 to the power of a number from the one to the other: "a power of two from 512 to 2^32"
abbrev pub least_exponent : ℕ
least_exponent = 9

abbrev pub greatest_exponent : ℕ
greatest_exponent = 32

-- an agreed length, and X, is from the one to the other
abbrev pub shortest_agreed : ℕ
shortest_agreed = 64

abbrev pub longest_agreed : ℕ
longest_agreed = 1364

-- a message, and an SRP_CMD, has at least this
abbrev pub shortest_message : ℕ
shortest_message = 16

abbrev pub shortest_command : ℕ
shortest_command = 48

-- a table, or the cut's list, has at most this; so many copies stand in a message at most
abbrev pub longest_table : ℕ
longest_table = 512

abbrev pub most_copies : ℕ
most_copies = 32

abbrev pub longest_sense : ℕ
longest_sense = 96

-- the tag of a credit request and of its response
abbrev pub credit_tag : ℕ
credit_tag = 1

-- formats as login bits: direct alone, and direct and indirect
abbrev pub direct_only : ℕ
direct_only = 0x0002

abbrev pub both_formats : ℕ
both_formats = 0x0006
