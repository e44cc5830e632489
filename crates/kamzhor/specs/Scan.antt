-- What the C host is answered by a scan: numbers only.
-- Assumes nothing.
use Rattle.std.specs.Prelude.{◌≡◌, List, ℕ, Ok, Err}
use Rattle.desk.specs.Desk.{fault_number}
use Rattle.desk.specs.declared.Desk.{Desk}
use Rattle.scan.specs.Scan.{fresh_scan, Steps, HearsReply, HearsClosing, Looks}
use Rattle.scan.specs.declared.AfterStep.{AfterStep}
use Rattle.scan.specs.declared.Found.{Found}
use Rattle.scan.specs.declared.Found.TheVariants.{NotYet, Absent, Present}
use Rattle.scan.specs.declared.Scan.{Scan}
use Rattle.scan.specs.Answers.{Stepping}
use Rattle.scan.specs.declared.Stage.TheVariants as stepping
use Rattle.kamzhor.specs.Desk.{booking_meant, closing_meant}
use Rattle.kamzhor.specs.Told.{Told}
use Rattle.kamzhor.specs.declared.host_desk.CloseAnswer.{CloseAnswer}
use Rattle.kamzhor.specs.declared.host_desk.ReplyAnswer.{ReplyAnswer}
use Rattle.kamzhor.specs.declared.host_scan.AfterScanStep.{AfterScanStep}
use Rattle.kamzhor.specs.declared.host_scan.ScanAnswer.{ScanAnswer}

-- ---- a step: 1 a module was asked, 2 its ticket is still out, 3 all turns are over, 0 the desk refused

abbrev pub scan_given : Stepping → ℕ → ScanAnswer
scan_given (Err f) considered = record { refusal = fault_number f; state = 0; address = 0; unit = 0; considered = considered; size = 0 }
scan_given (Ok (stepping.Asked address unit n)) considered = record { refusal = 0; state = 1; address = address; unit = unit; considered = considered; size = n }
scan_given (Ok (stepping.Waiting address)) considered = record { refusal = 0; state = 2; address = address; unit = 0; considered = considered; size = 0 }
scan_given (Ok stepping.Done) considered = record { refusal = 0; state = 3; address = 0; unit = 0; considered = considered; size = 0 }

abbrev pub scan_told : AfterStep → AfterScanStep
scan_told o = record { scan = o.scan; desk = o.desk; answer = scan_given o.answer o.count }

-- ---- what was found: "absent or a number: 1 for a datagram, 2 for nack, check error or busy". Absent is 0, and 3 a turn that is not over

abbrev pub found_given : Found → ℕ
found_given NotYet = 3
found_given Absent = 0
found_given (Present result) = result

-- ---- the contracts

-- `kamzhor_scan_fresh`
abbrev pub GivesScan : ℕ → Scan → Type 0
GivesScan job r = r ≡ fresh_scan job

-- `kamzhor_after_scan_step`
abbrev pub GivesScanStep : Scan → Desk → ℕ → List ℕ → AfterScanStep → List ℕ → Type 0
GivesScanStep scan desk clock room r room' = Told (λ o. Steps scan desk clock room o room') scan_told r

-- `kamzhor_after_scan_reply`
abbrev pub GivesScanReply : Scan → ReplyAnswer → Scan → Type 0
GivesScanReply scan answer r = HearsReply scan (booking_meant answer) r

-- `kamzhor_after_scan_close`
abbrev pub GivesScanClose : Scan → CloseAnswer → Scan → Type 0
GivesScanClose scan answer r = HearsClosing scan (closing_meant answer) r

-- `kamzhor_look_at_scan`
abbrev pub GivesFound : Scan → ℕ → ℕ → Type 0
GivesFound scan unit r = Told (Looks scan unit) found_given r
