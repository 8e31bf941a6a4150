-- An SRP_CMD as an initiator writes it is read back, for every pair of formats: its fields, its CDB, its descriptors.
-- Assumes nothing.
use mathlib.Core.Path.{◌≡◌, refl, sym, ap, subst, ◌∙◌}
use mathlib.Core.Bool.{Bool, true, false}
use mathlib.Core.List.{List, [], ◌∷◌, ◌++◌, append_assoc, append-nil}
use Prim.Native.Nat.{ℕ, ◌+◌, ◌*◌, ◌/◌, ◌%◌}
use native.Mathlib.Omega.{arith}
use lib.ListN.{length, take, drop, length-append}
use lib.Seq.{take_at, drop_at, drop-drop, get_or-drop}
use Rattle.srp.specs.Bytes.{Field, bytes, bits, bit, get, behind, gets, puts, zeros, type_of, write, InRange, sound}
use Rattle.srp.specs.Messages.{cmd, tag, lun, ucsolnt, scsolnt, out_format, in_format, out_count, in_count_lem, additional, address, handle, segment_length, total_length_lem, memory_descriptor, table_descriptor}
use Rattle.srp.specs.Descriptors.{segments_in, segments_of, descriptor_size, descriptor_of_lem}
use Rattle.srp.specs.Requests.{flag, request_of_lem, cdb_length, out_at, in_at, out_descriptor, in_descriptor}
use Rattle.srp.specs.Initiator.{Buffer, no_data, direct, indirect, format_of, count_of, buffer_bytes, CommandFields, values, command_bytes, Fit, Table, Says, command_in, Reads}
use Rattle.srp.specs.ReadBack.{Written}
use Rattle.srp.proofs.Layouts.{gets_append, read_back, written}

-- a field behind n bytes
pub get_behind : (f : Field) (n : ℕ) (s : List ℕ) → get (behind n f) s ≡ get f (drop n s)
get_behind (bytes at wide) n s = rw (drop-drop at n s)
get_behind (bits at low count) n s = rw (get_or-drop n s at 0)

-- where a starts at a byte of s, it is read there, and what follows it starts behind it
module _ (s a b : List ℕ) (at n : ℕ) (e : drop at s ≡ a ++ b) (l : length a ≡ n) where
  pub there : take n (drop at s) ≡ a
  there = rw (e, take_at a b n l)

  pub beyond : drop (at + n) s ≡ b
  beyond = rw (← (drop-drop n at s), e, drop_at a b n l)

-- ── one descriptor

-- a buffer's bytes are as many as its format and count say
pub buffer_long : (b : Buffer) → Fit b → length (buffer_bytes b) ≡ descriptor_size (format_of b) (count_of b)
buffer_long no_data f = refl
buffer_long (direct a h n) f = (read_back 16 memory_descriptor (a ∷ h ∷ n ∷ []) (zeros 16) refl refl f).1
buffer_long (indirect a h n t w) f =
    let l = (read_back 20 table_descriptor (a ∷ h ∷ n ∷ t ∷ []) (zeros 20) refl refl f.0).1 in
    let r = f.1 in
    rw (length-append, l) (omega arith)

-- 16 bytes are one segment
one_segment : (w : List ℕ) (a h n : ℕ) → length w ≡ 16 → gets memory_descriptor w ≡ a ∷ h ∷ n ∷ [] → segments_of w ≡ record { address = a; handle = h; len = n } ∷ []
one_segment w a h n l v = ap (λ (k : ℕ). segments_in (k / 16) w) l ∙ cc

-- a table descriptor's fields and copies, from the bytes w before the copies
table_read : (w c rest s : List ℕ) (at a h n t : ℕ) → drop at s ≡ (w ++ c) ++ rest → length w ≡ 20 → gets table_descriptor w ≡ a ∷ h ∷ n ∷ t ∷ [] → length c % 16 ≡ 0
    → Table a h n t c (descriptor_of_lem 2 (length c / 16) at s) s
table_read w c rest s at a h n t e l v z =
    let e' : drop at s ≡ w ++ (c ++ rest) = e ∙ append_assoc w c rest in
    let q : gets table_descriptor (drop at s) ≡ a ∷ h ∷ n ∷ t ∷ [] =
    ap (gets table_descriptor) e' ∙ gets_append table_descriptor w (c ++ rest) (ap (λ (k : ℕ). sound k table_descriptor) l) ∙ v in
    record {
      address = cc (get_behind address at s);
      handle = cc (get_behind handle at s);
      len = cc (get_behind segment_length at s);
      total = cc (get_behind total_length_lem at s);
      copied = there s c rest (at + 20) (16 * (length c / 16)) (beyond s w (c ++ rest) at 20 e' l) (omega arith);
    }

-- a buffer's descriptor says the buffer, wherever in the message it starts and whatever follows
pub buffer_says : (b : Buffer) → Fit b → (s rest : List ℕ) (at : ℕ) → drop at s ≡ buffer_bytes b ++ rest → Says b (descriptor_of_lem (format_of b) (count_of b) at s) s
buffer_says no_data f s rest at e = λ table. refl
buffer_says (direct a h n) f s rest at e = λ table.
    let r = read_back 16 memory_descriptor (a ∷ h ∷ n ∷ []) (zeros 16) refl refl f in
    ap segments_of (there s (buffer_bytes (direct a h n)) rest at 16 e r.1) ∙ one_segment (buffer_bytes (direct a h n)) a h n r.1 r.0
buffer_says (indirect a h n t c) f s rest at e =
    let r = read_back 20 table_descriptor (a ∷ h ∷ n ∷ t ∷ []) (zeros 20) refl refl f.0 in
    table_read (puts table_descriptor (a ∷ h ∷ n ∷ t ∷ []) (zeros 20)) c rest s at a h n t e r.1 r.0 f.1

-- ── a command

-- where a buffer starts, the descriptor of its format and count says it
said : (b : Buffer) → Fit b → (format count at : ℕ) (s rest : List ℕ) → format ≡ format_of b → count ≡ count_of b → drop at s ≡ buffer_bytes b ++ rest
    → Says b (descriptor_of_lem format count at s) s
said b f format count at s rest p q e =
    subst (λ (k : ℕ). Says b (descriptor_of_lem k count at s) s) (sym p)
    (subst (λ (k : ℕ). Says b (descriptor_of_lem (format_of b) k at s) s) (sym q) (buffer_says b f s rest at e))

flag_bit : (b : Bool) → flag (bit b) ≡ b
flag_bit true = refl
flag_bit false = refl

-- the fields' part w read, the rest is
reads : (c : CommandFields) (w s : List ℕ) → s ≡ w ++ (c.cdb ++ (buffer_bytes c.out ++ buffer_bytes c.inn)) → length w ≡ 32 → type_of s ≡ cmd.code → gets cmd.fields s ≡ values c
    → length c.cdb ≡ 16 + 4 * c.n → Fit c.out → Fit c.inn → Reads c s
reads c w s e lw k v l fo fi =
    let o : List ℕ = buffer_bytes c.out in
    let i : List ℕ = buffer_bytes c.inn in
    let n : get additional s ≡ c.n = cc in
    let t : get tag s ≡ c.request.tag = cc in
    let u : get lun s ≡ c.request.lun = cc in
    let uc : get ucsolnt s ≡ bit c.request.ucsolnt = cc in
    let sc : get scsolnt s ≡ bit c.request.scsolnt = cc in
    let f : get out_format s ≡ format_of c.out = cc in
    let g : get out_count s ≡ count_of c.out = cc in
    let f' : get in_format s ≡ format_of c.inn = cc in
    let g' : get in_count_lem s ≡ count_of c.inn = cc in
    let lc : length c.cdb ≡ cdb_length s = omega arith in
    let lo : length o ≡ descriptor_size (get out_format s) (get out_count s) = rw (f, g) (buffer_long c.out fo) in
    let li : length i ≡ descriptor_size (get in_format s) (get in_count_lem s) = rw (f', g') (buffer_long c.inn fi) in
    let d32 : drop 32 s ≡ c.cdb ++ (o ++ i) = beyond s w (c.cdb ++ (o ++ i)) 0 32 e lw in
    let dout : drop (out_at s) s ≡ o ++ i = beyond s c.cdb (o ++ i) 32 (cdb_length s) d32 lc in
    let din : drop (in_at s) s ≡ i = beyond s o i (out_at s) (descriptor_size (get out_format s) (get out_count s)) dout lo in
    let ao : out_at s ≡ 48 + 4 * c.n = omega arith in
    let ai : in_at s ≡ 48 + 4 * c.n + length o = omega arith in
    let request : request_of_lem s ≡ c.request = λ i. record { tag = t i; lun = u i; ucsolnt = (ap flag uc ∙ flag_bit c.request.ucsolnt) i; scsolnt = (ap flag sc ∙ flag_bit c.request.scsolnt) i } in
    let cdb : cdb_length s ≡ 16 + 4 * c.n = omega arith in
    let out : out_descriptor s ≡ (command_in c s).out = cc in
    let inn : in_descriptor s ≡ (command_in c s).inn = cc in
    record {
      code = k;
      fields = v;
      long = ap length e ∙ simp length-append (omega arith);
      cdb = there s c.cdb (o ++ i) 32 (cdb_length s) d32 lc;
      command = λ i. record { request = request i; cdb = cdb i; out = out i; inn = inn i };
      out = said c.out fo (get out_format s) (get out_count s) (out_at s) s i f g dout;
      inn = said c.inn fi (get in_format s) (get in_count_lem s) (in_at s) s [] f' g' (din ∙ sym (append-nil i));
    }

-- a command is read back as it was written, for every pair of formats
pub command_read : (c : CommandFields) → InRange cmd.fields (values c) → length c.cdb ≡ 16 + 4 * c.n → Fit c.out → Fit c.inn → Reads c (command_bytes c)
command_read c r l fo fi =
    let rest : List ℕ = c.cdb ++ (buffer_bytes c.out ++ buffer_bytes c.inn) in
    let m : Written cmd (values c) = written cmd refl (values c) r in
    reads c (write cmd (values c)) (command_bytes c) refl m.long (m.code_before rest) (m.values_before rest) l fo fi
