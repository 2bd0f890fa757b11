-- What the code keeps of settings.
use Rattle.helics_time.specs.Settings.{Terms}
use Rattle.helics_time.specs.declared.settings.Settings.TheInside.{Inside}

abbrev pub terms_of : Inside → Terms
terms_of s =
    record {
      period = s.period;
      offset = s.offset;
      time_delta = s.time_delta;
      input_delay = s.input_delay;
      output_delay = s.output_delay;
      uninterruptible = s.uninterruptible;
      wait = s.wait;
      max_iterations = s.max_iterations;
    }

abbrev pub inside_of : Terms → Inside
inside_of s =
    record {
      period = s.period;
      offset = s.offset;
      time_delta = s.time_delta;
      input_delay = s.input_delay;
      output_delay = s.output_delay;
      uninterruptible = s.uninterruptible;
      wait = s.wait;
      max_iterations = s.max_iterations;
    }
