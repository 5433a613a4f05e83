-- What the record of a letter's fields shows.
use Rattle.std.specs.Prelude.{string_bytes}
use Rattle.letter_report.specs.Report.{Fields}
use Rattle.letter_report.specs.declared.summary.Summary.TheInside.{Inside}

-- the fields that the record has, the estimate as the bytes of its text
abbrev pub fields_in : Inside → Fields
fields_in summary = record {
  phase = summary.phase;
  size = summary.size;
  sender = summary.sender;
  leader = summary.leader;
  approved = summary.approved;
  wide = summary.width;
  round = summary.round;
  timestamp = summary.timestamp;
  estimate = string_bytes summary.estimate;
  same = summary.same;
}
