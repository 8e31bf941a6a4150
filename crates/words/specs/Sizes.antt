-- How long a port's words and its store are, and their parts. Each size stands here once.
use Rattle.std.specs.Prelude.{ℕ, ◌+◌, ◌*◌}
use Rattle.srp.specs.Limits.{most_buffers, most_moves, longest_table}

-- commands that can be open at once, and places of the store
abbrev pub most_slots : ℕ
most_slots = most_buffers

-- words of the head, of a slot, and of a port
abbrev pub head_size : ℕ
head_size = 16

abbrev pub slot_words : ℕ
slot_words = 32

-- where the line's words begin, behind the slots; where in these its places do, of two words each
abbrev pub line_at : ℕ
line_at = head_size + most_slots * slot_words

abbrev pub ring_at : ℕ
ring_at = 2

abbrev pub port_words : ℕ
port_words = line_at + ring_at + 2 * most_moves

-- words of a slot: of the request; before the directions; of a direction; of these; of a descriptor that is kept while the command waits; in use. Behind
-- these are the words that are not read
abbrev pub request_words : ℕ
request_words = 4

abbrev pub parts_at : ℕ
parts_at = 6

abbrev pub part_words : ℕ
part_words = 7

abbrev pub first_words : ℕ
first_words = parts_at + 2 * part_words

abbrev pub table_words : ℕ
table_words = 4

abbrev pub used_words : ℕ
used_words = first_words + (1 + 2 * table_words)

-- bytes of one direction's memory descriptors in the store, of a command's place there, and of the store
abbrev pub list_size : ℕ
list_size = longest_table

abbrev pub place_size : ℕ
place_size = 2 * list_size

abbrev pub store_size : ℕ
store_size = most_slots * place_size
