-- K1 to K10 of document 01, K10 as S-3 of document 02 has it: each case is its number, what the definitions give, and what the papers
-- say.
use Rattle.std.specs.Prelude.{ℕ, ◌≡◌, List, [], ◌∷◌, ◌++◌, map}
use Rattle.number.specs.Reply.{Reply, refuse, accept, and_then, number}
use Rattle.number.specs.Number.{Got, got, read_number, number_bytes}
use Rattle.table.specs.Group.{GroupPairs, Access, load, store, order}
use Rattle.table.specs.Table.{none_seen}
use Rattle.table.specs.TableBytes.{read_group, read_table}
use Rattle.counts.specs.Counts.{share}
use Rattle.queue.specs.Open.{open_queue}
use Rattle.number.specs.Texts.{bytes}
use Rattle.printed.specs.Text.{text}

pub record Case : Type 0 where
  pub number : ℕ
  pub given : List ℕ
  pub expected : List ℕ

abbrev case : ℕ → List ℕ → List ℕ → Case
case n g e = record { number = n; given = g; expected = e }

-- the number read, where there is one
abbrev pub number_read : Reply (Got ℕ) → List ℕ
number_read (accept (got n s)) = n ∷ []
number_read (refuse k) = []

-- an access as two numbers: 0 for a load or 1 for a store, and its port
abbrev pub shown_accesses : List Access → List ℕ
shown_accesses [] = []
shown_accesses (load p ∷ rest) = 0 ∷ p.port ∷ shown_accesses rest
shown_accesses (store p ∷ rest) = 1 ∷ p.port ∷ shown_accesses rest

abbrev pub order_of : Reply (Got GroupPairs) → List ℕ
order_of (accept (got g s)) = shown_accesses (order g)
order_of (refuse n) = []

abbrev pub opened_at : ℕ → ℕ → ℕ → Reply (List GroupPairs) → ℕ
opened_at loads stores words table = number (and_then table λ gs. open_queue gs loads stores 0 words)

-- K1's table, and its trace event by event
abbrev pub k1_table : List ℕ
k1_table = 0x02 ∷ 0x01 ∷ 0x01 ∷ 0x01 ∷ 0x00 ∷ 0x00 ∷ 0x01 ∷ 0x00 ∷ []

abbrev pub k1_header : List ℕ
k1_header = 0x02 ∷ 0x02 ∷ 0xFF ∷ 0xFF ∷ 0xFF ∷ 0xFF ∷ 0x0F ∷ 0x04 ∷ []

abbrev pub k1_two : List ℕ
k1_two = 0x00 ∷ 0x00 ∷ 0x00 ∷ 0x00 ∷ []

abbrev pub k1_seven : List ℕ
k1_seven =
    k1_two ++ 0x01 ∷ 0x00 ∷ 0x03 ∷ 0x01 ∷ 0x00 ∷ 0x03 ∷ 0x04 ∷ 0x00
    ∷ 0x04 ∷ 0xFF ∷ 0xFF ∷ 0xFF ∷ 0xFF ∷ 0x0F ∷ 0x06 ∷ 0x00 ∷ []

abbrev pub k1_trace : List ℕ
k1_trace =
    k1_header ++ k1_seven ++ 0x02 ∷ 0x00 ∷ 0x03 ∷ 0x03 ∷ 0x00 ∷ 0x01 ∷ 0x04 ∷ 0x00
    ∷ 0x05 ∷ 0xFF ∷ 0xFF ∷ 0xFF ∷ 0xFF ∷ 0x0F ∷ 0x06 ∷ 0x00 ∷ []

-- what the paper says that it prints
abbrev pub k1_text : List ℕ
k1_text =
    bytes "1 0 -\n2 0 -\n3 0 -\n4 0 -\n5 28 -\n6 0 0\n7 0 0\n"
    ++ bytes "8 0 -\n9 0 -\n10 0 1\n11 0 -\n12 0 1\nword 3 1\nloads 2 forwarded 1 share 500\n"

-- K8: a third activation, after event 2 and after event 7; K9: address 4
abbrev pub k8_first : List ℕ
k8_first = bytes "1 0 -\n2 0 -\n3 21 -\nloads 0 forwarded 0 share 0\n"

abbrev pub k8_second : List ℕ
k8_second = bytes "1 0 -\n2 0 -\n3 0 -\n4 0 -\n5 28 -\n6 0 0\n7 0 0\n8 21 -\nloads 1 forwarded 0 share 0\n"

abbrev pub k9_text : List ℕ
k9_text = bytes "1 0 -\n2 0 -\n3 23 -\nloads 0 forwarded 0 share 0\n"

-- K5's group, and K6's
abbrev pub k5_group : List ℕ
k5_group = 2 ∷ 2 ∷ 0 ∷ 4 ∷ 2 ∷ 5 ∷ 1 ∷ 3 ∷ 1 ∷ 4 ∷ []

abbrev pub k6_group : List ℕ
k6_group = 2 ∷ 2 ∷ 0 ∷ 4 ∷ 2 ∷ 5 ∷ 0 ∷ 3 ∷ 1 ∷ 4 ∷ []

-- THE CASES.
abbrev pub cases : List Case
cases =
    -- K1: the whole printed text, from the bytes of both files
    case 1 (text k1_table k1_trace) k1_text
    -- K2: 127 is 7F; K3: 128 is 80 01
    ∷ case 2 (number_bytes 127) (0x7F ∷ [])
    ∷ case 2 (number_read (read_number (0x7F ∷ []))) (127 ∷ [])
    ∷ case 3 (number_bytes 128) (0x80 ∷ 0x01 ∷ [])
    ∷ case 3 (number_read (read_number (0x80 ∷ 0x01 ∷ []))) (128 ∷ [])
    -- K4: FF FF FF FF 10 gets 2
    ∷ case 4 (number (read_number (0xFF ∷ 0xFF ∷ 0xFF ∷ 0xFF ∷ 0x10 ∷ [])) ∷ []) (2 ∷ [])
    -- K5: group 2,2,0,4,2,5,1,3,1,4 is load 4, store 3, store 4, load 5
    ∷ case 5 (order_of (read_group none_seen k5_group)) (0 ∷ 4 ∷ 1 ∷ 3 ∷ 1 ∷ 4 ∷ 0 ∷ 5 ∷ [])
    -- K6: with first store offset 0 it gets 8
    ∷ case 6 (number (read_group none_seen k6_group) ∷ []) (8 ∷ [])
    -- K7: K5, alone in its table, opened at load depth 1 with store depth 2 and memory length 4 gets 14
    ∷ case 7 (opened_at 1 2 4 (read_table (2 ∷ 1 ∷ k5_group)) ∷ []) (14 ∷ [])
    -- K8: a third activation after K1's event 2, or after event 7, gets 21
    ∷ case 8 (text k1_table (k1_header ++ k1_two ++ 0x00 ∷ 0x00 ∷ [])) k8_first
    ∷ case 8 (text k1_table (k1_header ++ k1_seven ++ 0x00 ∷ 0x00 ∷ [])) k8_second
    -- K9: in K1 address 4 gets 23
    ∷ case 9 (text k1_table (k1_header ++ k1_two ++ 0x01 ∷ 0x00 ∷ 0x04 ∷ [])) k9_text
    ∷ case 9 (text k1_table (k1_header ++ k1_two ++ 0x02 ∷ 0x00 ∷ 0x04 ∷ [])) k9_text
    -- K10, as S-3 has it: share of 1 in 16 is 62; that of 3 in 16 stays 188
    ∷ case 10 (share (record { loads = 16; forwarded = 1 }) ∷ []) (62 ∷ [])
    ∷ case 10 (share (record { loads = 16; forwarded = 3 }) ∷ []) (188 ∷ [])
    ∷ []

abbrev pub case_given : Case → List ℕ
case_given c = c.given

abbrev pub expected_of : Case → List ℕ
expected_of c = c.expected

-- every case is as the paper says
abbrev pub AllCasesHold : Type 0
AllCasesHold = map case_given cases ≡ map expected_of cases
