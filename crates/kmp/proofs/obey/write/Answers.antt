use Rattle.kmp.proofs.obey.write.Goals as goal

pub returns : goal.returns
returns g c = record {
  answers = record {
    result = c.write_image.result;
    writes = c.write_image.ensures.writes;
    status_is = c.after_write.ensures.status;
  };
}
