use Rattle.plan_cli.proofs.runs.run_task.Goals as goal

pub returns : goal.returns
returns g c = record {
  reads = c.answer.ensures.reads;
  writes = c.answer.ensures.writes;
  text = c.answer.ensures.text;
  front = c.answer.ensures.front;
  quiet = c.answer.ensures.quiet;
  fine = c.answer.ensures.fine;
  heard = c.answer.ensures.heard;
  unread = c.answer.ensures.unread;
  input = c.answer.ensures.input;
  output = c.answer.ensures.output;
}
