use Rattle.kmp_base.proofs.StreamLaws.{writes_as}
use Rattle.kmp_call.proofs.last_row.write_row.Goals as goal

pub returns : goal.returns
returns g c = record {
  answers = record {
    result = c.put.result;
    writes = writes_as c.bytes.ensures.bytes c.put.ensures.writes;
    status_is = c.after_write.ensures.status;
  };
}
