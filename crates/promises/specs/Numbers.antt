-- "Numbers for what can't be done": the numbers, of the desk's 15, 17 to 20, 61 and 75, each by inputs that its row alone refuses, and the next that is
-- not refused, with what the definitions tell there.
-- Assumes nothing.
use Rattle.std.specs.Prelude.{Bool, true, ◌&&◌, List, [], ◌∷◌, ℕ, ◌+◌, ◌-◌, ◌^◌, eqb, replicate, Some, None, Ok}
use Rattle.std.proofs.Math.Option.{Option}
use Rattle.frame.specs.Frame.{framed}
use Rattle.telegram.specs.Read.{read_frame, read_told}
use Rattle.telegram.specs.Write.{telegram_for, write_refusal, write_answer, write_told}
use Rattle.telegram.specs.declared.Fields.{Fields}
use Rattle.values.specs.Values.{read_value}
use Rattle.values.specs.declared.Value.{Value}
use Rattle.values.specs.declared.Value.TheVariants.{Natural, Negative}
use Rattle.values.specs.Values as values
use Rattle.catalogue.specs.Catalogue.{find_entry, find_told}
use Rattle.bench.specs.Build.{make_refusal, add_refusal, set_refusal, build_answer, build_told}
use Rattle.bench.specs.Register.{no_register}
use Rattle.bench.specs.Take.{take_refusal, take_answer, take_told}
use Rattle.bench.specs.declared.Bench.{Bench}
use Rattle.receiver.specs.Receiver.{outside_at, step_of, step_told}
use Rattle.request.specs.declared.Request.{Request}
use Rattle.ticket.specs.Ticket.{new_ticket, withdrawn_at}
use Rattle.marks.specs.Marks.{no_marks}
use Rattle.desk.specs.Close.{withdrawn_on}
use Rattle.desk.specs.Desk.{fresh_desk, ticket_on}
use Rattle.desk.specs.Open.{open_refusal, open_answer, open_told, given_place, with_ticket}
use Rattle.desk.specs.Reply.{reply_refusal, book_answer, book_told}
use Rattle.desk.specs.declared.Desk.{Desk}
use Rattle.telegram.specs.Read.{fields_in}
use Rattle.varia.specs.Box.{edge_refusal, attenuation_refusal, fault_number}
use Rattle.varia.specs.Display.{which_of, display_told}
use Rattle.varia.specs.Answers.{Edge, sent}
use Rattle.varia.specs.declared.FilterBox.{FilterBox}
use Rattle.varia.specs.Answers.{Out}
use Rattle.varia.specs.declared.Pass.{Pass}
use Rattle.varia.specs.declared.Pass.TheVariants.{Short, Long}
use Rattle.lanes.specs.Grant.{grant_refusal, grant_told}
use Rattle.lanes.specs.Join.{join_refusal, join_answer, join_told}
use Rattle.lanes.specs.Lanes as lanes
use Rattle.lanes.specs.Withdraw.{withdraw_refusal, withdraw_answer, withdraw_told}
use Rattle.lanes.specs.declared.Turn.TheVariants.{TakenOut}
use Rattle.lanes.specs.declared.Lanes.{Lanes}
use Rattle.sheet.specs.Sheet.{count_in, records_in, check_refusal, check_answer, check_told, read_refusal}
use Rattle.sheet.specs.Sheet as sheet
use Rattle.setting.specs.Setting.{head, heads}
use Rattle.setting.specs.Setting as settings
use Rattle.sheet_writer.specs.Writer as writer
use Rattle.sheet_editor.specs.Editor as editor
use Rattle.rows.specs.Rows.{raised}
use Rattle.promises.specs.Slips.{or_zero, bench, request, asked_desk, used_desk}

pub record Given : Type 0 where
  pub told : ℕ
  pub number : ℕ

-- what a call tells, or 0 for none, and the paper's number
abbrev pub gives : Option ℕ → ℕ → Given
gives told number = record { told = or_zero told; number = number }

unfoldable pub all_given : List Given → Bool
all_given [] = true
all_given (g ∷ rest) = eqb g.told g.number && all_given rest

-- ---- the calls

abbrev pub reading : List ℕ → ℕ → Option ℕ
reading frame room = read_told (read_frame frame room)

abbrev pub writing : ℕ → ℕ → ℕ → List ℕ → ℕ → Option ℕ
writing destination source sort bytes room = write_told (write_answer (write_refusal destination source sort 102 bytes room) 0)

abbrev pub value_read : ℕ → List ℕ → ℕ → Option ℕ
value_read kind bytes element = values.read_told (read_value kind bytes element)

abbrev pub value_written : ℕ → Value → ℕ → Option ℕ
value_written kind value room = values.write_told (values.write_answer (values.write_refusal kind value room))

abbrev pub making : ℕ → Option ℕ
making address = build_told (build_answer (make_refusal address))

abbrev pub adding : Bench → ℕ → ℕ → ℕ → Option ℕ
adding to number kind rights = build_told (build_answer (add_refusal to number kind rights))

abbrev pub setting : ℕ → Value → Option ℕ
setting number value = build_told (build_answer (set_refusal bench number value))

abbrev pub taking : List ℕ → ℕ → Option ℕ
taking frame room = take_told (take_answer (take_refusal bench frame room) [])

-- a bench with 32 registers, none of which is 48
abbrev pub full_bench : Bench
full_bench = record { address = 15; count = 32; registers = replicate 32 no_register }

-- a receiver at a place, and a chunk
abbrev pub stepping : ℕ → List ℕ → Option ℕ
stepping place chunk = step_told (step_of (outside_at place) chunk).answer

-- a desk on which every address rests from a clock on
abbrev pub resting_desk : ℕ → Desk
resting_desk clock = record { turn = 0; tickets = replicate 95 (withdrawn_at clock); marks = no_marks }

abbrev pub opening : Desk → ℕ → Option ℕ
opening desk clock = open_told (open_answer (open_refusal desk request [] clock 494) (161 + given_place desk clock) 8)

-- a request for no folder
abbrev pub no_folder : Request
no_folder = record { job = 7; unit = 15; sort = 4; register = 102; wait = 1000; folder = 0 }

-- a desk on which every address has a ticket of job 7 for folder 3
abbrev pub full_desk : Desk
full_desk = record { turn = 0; tickets = replicate 95 (new_ticket request 0); marks = record { low = 2 ^ 64 - 1; high = 2 ^ 31 - 1 } }

-- a job's opening on a folder, with a waiting time
abbrev pub opening_on : Desk → ℕ → ℕ → ℕ → Option ℕ
opening_on desk job folder wait =
    open_told (open_answer (open_refusal desk (record { job = job; unit = 15; sort = 4; register = 102; wait = wait; folder = folder }) [] 40 494) 161 8)

abbrev pub replying : Desk → List ℕ → Option ℕ
replying desk frame = book_told (book_answer (reply_refusal desk frame 240) (ticket_on desk 161) (fields_in frame))

-- a filter box with these edges and this out, before any desk is asked
abbrev pub filters : Edge → Edge → Out → FilterBox
filters short long o = record { job = 9; unit = 16; short = short; long = long; out = o }

abbrev pub setting_edge : FilterBox → Pass → ℕ → Option ℕ
setting_edge box pass tenths = raised fault_number (edge_refusal box pass tenths)

abbrev pub attenuating : ℕ → Option ℕ
attenuating permille = raised fault_number (attenuation_refusal permille)

abbrev pub showing : List ℕ → List ℕ → Option ℕ
showing fresh kept = display_told (which_of fresh kept)

-- sixteen lanes in each of which so many requests of job 7 wait; a request of a job, a grant and a withdrawal there
abbrev pub lanes_with : ℕ → Lanes
lanes_with n = record { last = 15; lanes = replicate 16 (record { size = n; waiting = replicate 4 (lanes.waiting_with request []) }) }

abbrev pub joining : Lanes → ℕ → Option ℕ
joining all job =
    join_told (join_answer (join_refusal all (record { job = job; unit = request.unit; sort = request.sort; register = request.register; wait = request.wait; folder = request.folder }) []) all 0)

abbrev pub granting : Lanes → ℕ → Option ℕ
granting all room = raised lanes.fault_number (grant_refusal all room)

abbrev pub withdrawing : Lanes → ℕ → ℕ → Option ℕ
withdrawing all job at = withdraw_told (withdraw_answer (withdraw_refusal all job at))

-- a sheet by its fields and what follows, and a row of 8 bytes with what follows
abbrev pub sheet_with : ℕ → ℕ → ℕ → ℕ → List ℕ → List ℕ
sheet_with version count records values rest = version ∷ 0 ∷ count ∷ 0 ∷ records ∷ 0 ∷ 0 ∷ 0 ∷ values ∷ 0 ∷ 0 ∷ 0 ∷ rest

abbrev pub row_of : ℕ → ℕ → ℕ → ℕ → ℕ → List ℕ → List ℕ
row_of unit register kind count number rest = unit ∷ register ∷ kind ∷ count ∷ number ∷ 0 ∷ 0 ∷ 0 ∷ rest

abbrev pub checking : List ℕ → Option ℕ
checking bytes = check_told (check_answer (check_refusal bytes) (count_in bytes))

abbrev pub reading_sheet : List ℕ → ℕ → List ℕ → Option ℕ
reading_sheet bytes index room = sheet.read_told (sheet.read_answer (read_refusal bytes index room) (heads (records_in bytes) index))

abbrev pub writing_sheet : List ℕ → List ℕ → List ℕ → Option ℕ
writing_sheet rows values room = writer.write_told (writer.write_answer (writer.write_refusal rows values room) 0)

abbrev pub removing : List ℕ → ℕ → ℕ → Option ℕ
removing room size index = editor.edit_told (editor.edit_answer (editor.remove_refusal room size index) 0)

abbrev pub removing_module : List ℕ → ℕ → ℕ → Option ℕ
removing_module room size unit = editor.edit_told (editor.edit_answer (editor.module_refusal room size unit) 0)

abbrev pub adding_setting : List ℕ → ℕ → ℕ → ℕ → ℕ → ℕ → List ℕ → Option ℕ
adding_setting room size unit register kind count value =
    editor.edit_told (editor.edit_answer (editor.add_refusal room size (settings.setting (head unit register kind count) value)) 0)

-- the reply to that request
abbrev pub reply : List ℕ
reply = telegram_for 161 15 8 102 (0x34 ∷ 0x12 ∷ [])

-- ---- the table: the reader and the writer, the values, the catalogue, the bench at 15 with register 48, a U8, the receiver, the desk, the
-- filter box, and settings sheets

abbrev pub refusals : List Given
refusals =
    gives (reading (13 ∷ []) 240) 1
    ∷ gives (reading (12 ∷ 10 ∷ []) 240) 1
    ∷ gives (reading (13 ∷ 11 ∷ []) 240) 1
    ∷ gives (reading (13 ∷ 10 ∷ 10 ∷ []) 240) 2
    ∷ gives (reading (13 ∷ 13 ∷ 10 ∷ []) 240) 2
    ∷ gives (reading (13 ∷ 94 ∷ 10 ∷ []) 240) 3
    ∷ gives (reading (framed (1 ∷ 2 ∷ 3 ∷ 4 ∷ 5 ∷ [])) 240) 4
    ∷ gives (reading (framed (replicate 247 1)) 241) 5
    ∷ gives (reading (telegram_for 15 162 5 48 (3 ∷ [])) 0) 6
    ∷ gives (reading (framed (0x0F ∷ 0xA2 ∷ 0x04 ∷ 0x66 ∷ 0xC7 ∷ 0xB7 ∷ [])) 0) 7
    ∷ gives (reading (telegram_for 0 162 4 102 []) 0) 8
    ∷ gives (reading (telegram_for 15 0 4 102 []) 0) 8
    ∷ gives (reading (telegram_for 15 162 10 102 []) 0) 9
    ∷ gives (reading (telegram_for 15 162 9 102 []) 0) 0
    ∷ gives (writing 15 162 8 (replicate 241 1) 494) 5
    ∷ gives (writing 0 162 4 [] 8) 8
    ∷ gives (writing 15 0 4 [] 8) 8
    ∷ gives (writing 15 162 10 [] 8) 9
    ∷ gives (writing 15 162 4 [] 7) 6
    ∷ gives (writing 15 162 4 [] 8) 0
    ∷ gives (value_read 0 (1 ∷ []) 0) 40
    ∷ gives (value_read 8 (1 ∷ []) 0) 40
    ∷ gives (value_read 1 [] 0) 41
    ∷ gives (value_read 3 (1 ∷ 2 ∷ 3 ∷ []) 0) 41
    ∷ gives (value_read 3 (1 ∷ 2 ∷ []) 1) 42
    ∷ gives (value_read 3 (1 ∷ 2 ∷ []) 0) 0
    ∷ gives (value_written 8 (Natural 0) 8) 40
    ∷ gives (value_written 1 (Natural 256) 1) 43
    ∷ gives (value_written 3 (Negative 0) 2) 43
    ∷ gives (value_written 3 (Natural 0) 1) 44
    ∷ gives (value_written 3 (Natural 0) 3) 0
    ∷ gives (find_told (find_entry 0x67 0x12)) 50
    ∷ gives (find_told (find_entry 0x67 0x11)) 0
    ∷ gives (making 0) 34
    ∷ gives (making 161) 34
    ∷ gives (making 160) 0
    ∷ gives (adding bench 49 0 7) 30
    ∷ gives (adding bench 49 8 7) 30
    ∷ gives (adding bench 49 7 8) 31
    ∷ gives (adding bench 48 7 7) 32
    ∷ gives (adding full_bench 48 7 7) 33
    ∷ gives (adding bench 49 7 7) 0
    ∷ gives (setting 49 (Natural 1)) 38
    ∷ gives (setting 48 (Natural 256)) 43
    ∷ gives (setting 48 (Natural 255)) 0
    ∷ gives (taking (telegram_for 16 162 4 48 []) 8) 35
    ∷ gives (taking (telegram_for 15 162 0 48 []) 8) 36
    ∷ gives (taking (telegram_for 15 162 1 48 []) 8) 36
    ∷ gives (taking (telegram_for 15 162 2 48 []) 8) 36
    ∷ gives (taking (telegram_for 15 162 3 48 []) 8) 36
    ∷ gives (taking (telegram_for 15 162 8 48 []) 8) 36
    ∷ gives (taking (telegram_for 15 162 4 48 []) 7) 37
    ∷ gives (taking (telegram_for 15 162 4 48 []) 8) 0
    ∷ gives (taking (telegram_for 15 162 5 48 []) 8) 0
    ∷ gives (taking (telegram_for 15 162 6 48 []) 8) 0
    ∷ gives (taking (telegram_for 15 162 7 48 []) 8) 0
    ∷ gives (taking (telegram_for 15 162 9 48 []) 8) 0
    ∷ gives (stepping 18446744073709551614 (13 ∷ 10 ∷ [])) 60
    ∷ gives (stepping 18446744073709551614 (13 ∷ [])) 0
    ∷ gives (stepping 18446744073709551615 []) 0
    ∷ gives (opening (resting_desk 40) 40) 15
    ∷ gives (opening (resting_desk 40) 1039) 15
    ∷ gives (opening (resting_desk 40) 1040) 0
    ∷ gives (opening (resting_desk 40) 39) 0
    ∷ gives (opening (resting_desk 4294966796) 499) 15
    ∷ gives (opening (resting_desk 4294966796) 500) 0
    ∷ gives (opening_on asked_desk 8 3 1) 75
    ∷ gives (opening_on asked_desk 8 3 0) 14
    ∷ gives (opening_on asked_desk 7 3 1) 0
    ∷ gives (opening_on asked_desk 8 4 1) 0
    ∷ gives (opening_on asked_desk 8 0 1) 0
    ∷ gives (opening_on (with_ticket fresh_desk 0 (new_ticket no_folder 0)) 8 0 1) 0
    ∷ gives (opening_on used_desk 8 3 1) 0
    ∷ gives (opening_on (withdrawn_on asked_desk 161 40) 8 3 1) 0
    ∷ gives (opening_on full_desk 8 3 1) 75
    ∷ gives (opening_on full_desk 8 4 1) 15
    ∷ gives (opening_on full_desk 7 3 1) 15
    ∷ gives (replying asked_desk reply) 0
    ∷ gives (replying fresh_desk reply) 17
    ∷ gives (replying used_desk reply) 17
    ∷ gives (replying (withdrawn_on asked_desk 161 40) reply) 61
    ∷ gives (replying asked_desk (telegram_for 161 10 8 102 [])) 18
    ∷ gives (replying asked_desk (telegram_for 161 15 3 102 [])) 19
    ∷ gives (replying asked_desk (telegram_for 161 15 8 103 [])) 20
    ∷ gives (joining lanes.fresh_lanes 8) 0
    ∷ gives (joining (lanes_with 1) 8) 71
    ∷ gives (joining (lanes_with 4) 8) 71
    ∷ gives (joining (lanes_with 4) 7) 72
    ∷ gives (joining (lanes_with 3) 7) 0
    ∷ gives (joining (lanes_with 4) 0) 10
    ∷ gives (granting lanes.fresh_lanes 493) 73
    ∷ gives (granting (lanes_with 1) 493) 73
    ∷ gives (granting lanes.fresh_lanes 494) 74
    ∷ gives (granting (lanes_with 1) 494) 0
    ∷ gives (grant_told (Ok (TakenOut 7))) 75
    ∷ gives (withdrawing lanes.fresh_lanes 7 1) 55
    ∷ gives (withdrawing (lanes_with 2) 8 1) 55
    ∷ gives (withdrawing (lanes_with 2) 7 0) 55
    ∷ gives (withdrawing (lanes_with 2) 7 3) 55
    ∷ gives (withdrawing (lanes_with 2) 7 2) 0
    ∷ gives (setting_edge (filters None None (sent 161 Long 5000)) Short 6000) 59
    ∷ gives (setting_edge (filters (Some 5000) None (sent 161 Short 6000)) Long 5000) 59
    ∷ gives (setting_edge (filters None (Some 6000) None) Short 6000) 63
    ∷ gives (setting_edge (filters None (Some 6000) None) Short 6001) 0
    ∷ gives (setting_edge (filters (Some 6000) None None) Long 6000) 63
    ∷ gives (setting_edge (filters (Some 6000) None None) Long 5999) 0
    ∷ gives (setting_edge (filters (Some 6000) None None) Short 0) 0
    ∷ gives (setting_edge (filters None (Some 6000) None) Long 65535) 0
    ∷ gives (attenuating 1001) 62
    ∷ gives (attenuating 1000) 0
    ∷ gives (showing (1 ∷ []) (1 ∷ 2 ∷ 3 ∷ [])) 64
    ∷ gives (showing (1 ∷ 2 ∷ 3 ∷ []) []) 64
    ∷ gives (showing (1 ∷ 2 ∷ []) (1 ∷ [])) 0
    ∷ gives (showing (1 ∷ []) (1 ∷ 2 ∷ [])) 0
    ∷ gives (checking []) 65
    ∷ gives (checking (1 ∷ 0 ∷ 0 ∷ 0 ∷ 12 ∷ 0 ∷ 0 ∷ 0 ∷ 12 ∷ 0 ∷ 0 ∷ [])) 65
    ∷ gives (checking (sheet_with 1 0 12 12 [])) 0
    ∷ gives (checking (sheet_with 0 0 12 12 [])) 66
    ∷ gives (checking (sheet_with 2 0 12 12 [])) 66
    ∷ gives (checking (sheet_with 1 0 13 12 [])) 67
    ∷ gives (checking (sheet_with 1 0 12 11 [])) 67
    ∷ gives (checking (sheet_with 1 0 12 13 (0 ∷ []))) 67
    ∷ gives (checking (sheet_with 1 1 12 20 (15 ∷ []))) 67
    ∷ gives (checking (sheet_with 1 0 12 12 (0 ∷ []))) 70
    ∷ gives (checking (sheet_with 1 1 12 20 (row_of 15 48 3 1 0 (52 ∷ 18 ∷ [])))) 0
    ∷ gives (checking (sheet_with 1 1 12 20 (row_of 15 48 3 1 0 (52 ∷ [])))) 70
    ∷ gives (checking (sheet_with 1 1 12 20 (row_of 15 48 3 1 0 (52 ∷ 18 ∷ 0 ∷ [])))) 70
    ∷ gives (checking (sheet_with 1 1 12 20 (row_of 15 48 3 1 1 (52 ∷ 18 ∷ [])))) 70
    ∷ gives (checking (sheet_with 1 1 12 20 (row_of 0 48 1 1 0 (52 ∷ [])))) 69
    ∷ gives (checking (sheet_with 1 1 12 20 (row_of 160 48 1 1 0 (52 ∷ [])))) 0
    ∷ gives (checking (sheet_with 1 1 12 20 (row_of 161 48 1 1 0 (52 ∷ [])))) 69
    ∷ gives (checking (sheet_with 1 1 12 20 (row_of 15 48 0 1 0 []))) 69
    ∷ gives (checking (sheet_with 1 1 12 20 (row_of 15 48 8 1 0 []))) 69
    ∷ gives (checking (sheet_with 1 1 12 20 (row_of 15 48 1 0 0 []))) 69
    ∷ gives (checking (sheet_with 1 1 12 20 (row_of 15 48 1 240 0 (replicate 240 1)))) 0
    ∷ gives (checking (sheet_with 1 1 12 20 (row_of 15 48 1 241 0 (replicate 241 1)))) 69
    ∷ gives (checking (sheet_with 1 1 12 20 (row_of 15 48 3 121 0 (replicate 242 1)))) 69
    ∷ gives (checking (sheet_with 1 2 12 28 (row_of 15 48 1 1 0 (row_of 15 48 1 1 1 (1 ∷ 2 ∷ []))))) 68
    ∷ gives (checking (sheet_with 1 2 12 28 (row_of 16 48 1 1 0 (row_of 15 49 1 1 1 (1 ∷ 2 ∷ []))))) 68
    ∷ gives (checking (sheet_with 1 2 12 28 (row_of 15 49 1 1 0 (row_of 16 48 1 1 1 (1 ∷ 2 ∷ []))))) 0
    ∷ gives (checking (sheet_with 1 3 12 36 (row_of 0 48 1 1 0 (row_of 15 48 1 1 1 (row_of 15 47 1 1 2 (1 ∷ 2 ∷ 3 ∷ [])))))) 68
    ∷ gives (checking (sheet_with 3 0 12 12 [])) 66
    ∷ gives (checking (1 ∷ 1 ∷ 0 ∷ 0 ∷ 12 ∷ 0 ∷ 0 ∷ 0 ∷ 12 ∷ 0 ∷ 0 ∷ 0 ∷ [])) 66
    ∷ gives (checking (1 ∷ 0 ∷ 129 ∷ 0 ∷ 12 ∷ 0 ∷ 0 ∷ 0 ∷ 20 ∷ 4 ∷ 0 ∷ 0 ∷ replicate 1032 1)) 67
    ∷ gives (checking (1 ∷ 0 ∷ 128 ∷ 0 ∷ 12 ∷ 0 ∷ 0 ∷ 0 ∷ 12 ∷ 4 ∷ 0 ∷ 0 ∷ replicate 1024 1)) 68
    ∷ gives (checking (sheet_with 1 2 12 28 (row_of 15 48 1 1 0 (row_of 15 49 8 1 1 (1 ∷ 2 ∷ []))))) 69
    ∷ gives (checking (sheet_with 1 2 12 28 (row_of 15 48 1 1 5 (row_of 15 49 8 1 1 (1 ∷ 2 ∷ []))))) 69
    ∷ gives (reading_sheet (sheet_with 1 2 12 28 (row_of 15 48 1 1 0 (row_of 15 49 1 1 1 (1 ∷ 2 ∷ [])))) 1 (0 ∷ [])) 0
    ∷ gives (reading_sheet (sheet_with 1 1 12 20 (row_of 15 48 3 1 0 (52 ∷ 18 ∷ []))) 1 []) 56
    ∷ gives (reading_sheet (sheet_with 1 1 12 20 (row_of 15 48 3 1 0 (52 ∷ 18 ∷ []))) 0 (0 ∷ [])) 57
    ∷ gives (reading_sheet (sheet_with 1 1 12 20 (row_of 15 48 3 1 0 (52 ∷ 18 ∷ []))) 0 (0 ∷ 0 ∷ [])) 0
    ∷ gives (reading_sheet (sheet_with 2 1 12 20 (row_of 15 48 3 1 0 (52 ∷ 18 ∷ []))) 0 (0 ∷ 0 ∷ [])) 66
    ∷ gives (writing_sheet (replicate 1032 1) [] []) 79
    ∷ gives (writing_sheet (replicate 1024 1) [] []) 68
    ∷ gives (writing_sheet (row_of 15 48 3 1 1 []) (1 ∷ []) []) 69
    ∷ gives (writing_sheet (row_of 15 48 3 1 2 []) (1 ∷ []) []) 69
    ∷ gives (writing_sheet (row_of 15 48 3 1 1 []) (52 ∷ 18 ∷ []) []) 69
    ∷ gives (writing_sheet (row_of 15 48 3 1 3 []) (52 ∷ 18 ∷ []) []) 69
    ∷ gives (writing_sheet (row_of 15 48 3 1 2 []) (52 ∷ 18 ∷ 0 ∷ []) []) 69
    ∷ gives (writing_sheet (row_of 15 48 3 1 2 (15 ∷ [])) (52 ∷ 18 ∷ []) []) 69
    ∷ gives (writing_sheet (row_of 15 48 3 1 2 (replicate 7 0)) (52 ∷ 18 ∷ []) []) 69
    ∷ gives (writing_sheet (row_of 15 48 3 1 2 []) (52 ∷ 18 ∷ []) (replicate 21 0)) 57
    ∷ gives (writing_sheet (row_of 15 48 3 1 2 []) (52 ∷ 18 ∷ []) (replicate 22 0)) 0
    ∷ gives (removing (sheet_with 1 1 12 20 (row_of 15 48 3 1 0 (52 ∷ 18 ∷ []))) 22 0) 0
    ∷ gives (removing (sheet_with 1 1 12 20 (row_of 15 48 3 1 0 (52 ∷ 18 ∷ []))) 23 0) 80
    ∷ gives (removing (sheet_with 1 1 12 20 (row_of 15 48 3 1 0 (52 ∷ 18 ∷ []))) 21 0) 70
    ∷ gives (removing (sheet_with 1 1 12 20 (row_of 15 48 3 1 0 (52 ∷ 18 ∷ []))) 22 1) 77
    ∷ gives (removing [] 0 0) 65
    ∷ gives (removing [] 1 0) 80
    ∷ gives (removing (sheet_with 1 2 12 28 (row_of 15 48 1 1 0 (row_of 15 49 1 1 1 (1 ∷ 2 ∷ [])))) 30 1) 0
    ∷ gives (removing (sheet_with 1 2 12 28 (row_of 15 48 1 1 0 (row_of 15 49 1 1 1 (1 ∷ 2 ∷ [])))) 30 2) 77
    ∷ gives (removing (sheet_with 2 1 12 20 (row_of 15 48 3 1 0 (52 ∷ 18 ∷ []))) 22 1) 66
    ∷ gives (removing_module (sheet_with 1 2 12 28 (row_of 15 48 1 1 0 (row_of 15 49 1 1 1 (1 ∷ 2 ∷ [])))) 30 15) 0
    ∷ gives (removing_module (sheet_with 1 2 12 28 (row_of 15 48 1 1 0 (row_of 15 49 1 1 1 (1 ∷ 2 ∷ [])))) 30 14) 77
    ∷ gives (removing_module (sheet_with 1 2 12 28 (row_of 15 48 1 1 0 (row_of 15 49 1 1 1 (1 ∷ 2 ∷ [])))) 30 16) 77
    ∷ gives (removing_module (sheet_with 1 2 12 28 (row_of 15 48 1 1 0 (row_of 15 49 1 1 1 (1 ∷ 2 ∷ [])))) 31 16) 80
    ∷ gives (removing_module (sheet_with 1 2 12 28 (row_of 15 48 1 1 0 (row_of 15 49 1 1 1 (1 ∷ 2 ∷ [])))) 30 0) 77
    ∷ gives (removing_module (sheet_with 1 2 12 28 (row_of 15 48 1 1 0 (row_of 15 49 1 1 1 (1 ∷ 2 ∷ [])))) 30 255) 77
    ∷ gives (adding_setting (sheet_with 1 1 12 20 (row_of 15 48 3 1 0 (52 ∷ 18 ∷ replicate 9 0))) 22 15 49 1 1 (7 ∷ [])) 0
    ∷ gives (adding_setting (sheet_with 1 1 12 20 (row_of 15 48 3 1 0 (52 ∷ 18 ∷ replicate 8 0))) 22 15 49 1 1 (7 ∷ [])) 80
    ∷ gives (adding_setting (sheet_with 1 1 12 20 (row_of 15 48 3 1 0 (52 ∷ 18 ∷ replicate 9 0))) 32 15 49 1 1 (7 ∷ [])) 80
    ∷ gives (adding_setting (sheet_with 1 1 12 20 (row_of 15 48 3 1 0 (52 ∷ 18 ∷ replicate 9 0))) 23 15 48 0 1 (7 ∷ [])) 70
    ∷ gives (adding_setting (sheet_with 1 1 12 20 (row_of 15 48 3 1 0 (52 ∷ 18 ∷ replicate 9 0))) 22 15 48 1 1 (7 ∷ [])) 78
    ∷ gives (adding_setting (sheet_with 1 1 12 20 (row_of 15 48 3 1 0 (52 ∷ 18 ∷ replicate 0 0))) 22 15 48 1 1 (7 ∷ [])) 78
    ∷ gives (adding_setting (sheet_with 1 1 12 20 (row_of 15 48 3 1 0 (52 ∷ 18 ∷ replicate 9 0))) 22 161 48 1 1 (7 ∷ [])) 69
    ∷ gives (adding_setting (sheet_with 1 1 12 20 (row_of 15 48 3 1 0 (52 ∷ 18 ∷ replicate 9 0))) 22 0 48 1 1 (7 ∷ [])) 69
    ∷ gives (adding_setting (sheet_with 1 1 12 20 (row_of 15 48 3 1 0 (52 ∷ 18 ∷ replicate 9 0))) 22 15 48 8 1 (7 ∷ [])) 69
    ∷ gives (adding_setting (sheet_with 1 1 12 20 (row_of 15 48 3 1 0 (52 ∷ 18 ∷ replicate 9 0))) 22 15 48 1 0 []) 69
    ∷ gives (adding_setting (sheet_with 1 1 12 20 (row_of 15 48 3 1 0 (52 ∷ 18 ∷ replicate 9 0))) 22 15 48 1 1 []) 69
    ∷ gives (adding_setting (sheet_with 1 1 12 20 (row_of 15 48 3 1 0 (52 ∷ 18 ∷ replicate 9 0))) 22 15 48 1 2 (7 ∷ [])) 69
    ∷ gives (adding_setting (sheet_with 1 1 12 20 (row_of 15 48 3 1 0 (52 ∷ 18 ∷ replicate 9 0))) 22 14 48 1 1 (7 ∷ [])) 0
    ∷ []
